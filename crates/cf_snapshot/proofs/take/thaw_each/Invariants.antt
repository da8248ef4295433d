use Rattle.std.proofs.Common.{◌≡◌, fold, map}
use Rattle.std.specs.List.{range_with_len}
use Rattle.cf_snapshot.specs.Courses.{AreIn, tasks_of}
use Rattle.cf_snapshot.specs.Snapshots.{after}
use Rattle.cf_snapshot.specs.declared.event.SnapEvent.TheVariants.{Thaw}
use Rattle.cf_snapshot.proofs.Ending.{Thawing}
use Rattle.cf_snapshot.proofs.take.thaw_each.Given as goal

abbrev pub invariant-loop-host : goal.invariant-loop-host
invariant-loop-host l = record {
  tasks : tasks_of l.courses ≡ tasks_of l.fn.courses;
  hosts : AreIn l.snap l.courses;
  thawing : Thawing l.fn.snap l.host l.snap;
  state : l.snap ≡ fold after l.fn.snap (map Thaw (range_with_len 0 l.host));
}
