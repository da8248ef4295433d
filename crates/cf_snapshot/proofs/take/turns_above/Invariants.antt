use Rattle.std.proofs.Common.{◌≡◌}
use Rattle.cf_snapshot.specs.Courses.{AreIn, tasks_of, counts_of, passing_state}
use Rattle.cf_snapshot.proofs.take.turns_above.Given as goal

abbrev pub invariant-loop-above : goal.invariant-loop-above
invariant-loop-above l = record {
  tasks : tasks_of l.courses ≡ tasks_of l.fn.courses;
  hosts : AreIn l.snap l.courses;
  state : l.snap ≡ passing_state l.pace (counts_of (tasks_of l.fn.courses)) l.host l.above;
}
