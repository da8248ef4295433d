use Rattle.std.proofs.Common.{◌≡◌, length}
use Rattle.cf_snapshot.specs.Courses.{AreIn, tasks_of, counts_of}
use Rattle.cf_snapshot.specs.Plans.{turns_round}
use Rattle.cf_snapshot.specs.Snapshots.{state_after}
use Rattle.cf_snapshot.proofs.take.take_turns.Given as goal

abbrev pub invariant-loop-taken : goal.invariant-loop-taken
invariant-loop-taken l = record {
  tasks : tasks_of l.courses ≡ tasks_of l.fn.courses;
  hosts : AreIn l.snap l.courses;
  state : l.snap
      ≡ state_after (length (counts_of (tasks_of l.fn.courses))) (turns_round l.pace.turn (counts_of (tasks_of l.fn.courses)) l.taken);
}
