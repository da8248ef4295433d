use Rattle.std.proofs.Common.{◌≡◌, ◌-◌, fold, replicate}
use Rattle.std.specs.List.{flat_map, range_with_len}
use Rattle.cf_snapshot.specs.Courses.{AreIn, tasks_of, counts_of}
use Rattle.cf_snapshot.specs.Plans.{rows_at}
use Rattle.cf_snapshot.specs.Snapshots.{after, tail_of}
use Rattle.cf_snapshot.specs.declared.event.SnapEvent.TheVariants.{Cover}
use Rattle.cf_snapshot.proofs.Ending.{Covering}
use Rattle.cf_snapshot.proofs.take.cover_left.Given as goal

abbrev pub invariant-loop-host : goal.invariant-loop-host
invariant-loop-host l = record {
  tasks : tasks_of l.courses ≡ tasks_of l.fn.courses;
  hosts : AreIn l.snap l.courses;
  covering : Covering l.fn.snap (tasks_of l.fn.courses) l.host l.snap;
  state : l.snap ≡ fold after l.fn.snap
      (flat_map (λ host. replicate (rows_at (counts_of (tasks_of l.fn.courses)) host - tail_of l.fn.snap host) (Cover host)) (range_with_len 0 l.host));
}
