use Rattle.std.proofs.Common.{◌≡◌}
use Rattle.cf_snapshot.specs.Courses.{AreAnswered, AreIn, tasks_of, counts_of, freezing_state}
use Rattle.cf_snapshot.proofs.take.freeze_each.Given as goal

abbrev pub invariant-loop-host : goal.invariant-loop-host
invariant-loop-host l = record {
  tasks : tasks_of l.courses ≡ tasks_of l.fn.courses;
  hosts : AreIn l.snap l.courses;
  state : l.snap ≡ freezing_state l.pace (counts_of (tasks_of l.fn.courses)) l.host;
  answers : AreAnswered l.pace l.asks (tasks_of l.fn.courses) l.host l.answers.items;
}
