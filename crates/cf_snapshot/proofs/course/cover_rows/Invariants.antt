use Rattle.std.proofs.Common.{◌≡◌, ◌-◌, false, length, fold, replicate}
use Rattle.cf_snapshot.specs.Courses.{IsCourse}
use Rattle.cf_snapshot.specs.Hosts.{StandsFor}
use Rattle.cf_snapshot.specs.Snapshots.{IsSnapshot, after}
use Rattle.cf_snapshot.specs.declared.event.SnapEvent.TheVariants.{Cover}
use Rattle.cf_snapshot.proofs.course.cover_rows.Given as goal

abbrev pub invariant-loop-place : goal.invariant-loop-place
invariant-loop-place l = record {
  course : IsCourse l.rows l.host;
  shape : l.host.shape ≡ l.fn.host.shape;
  free : l.host.is_frozen ≡ false;
  sized : IsSnapshot l.snap;
  stands : StandsFor l.snap l.number l.host;
  here : length l.host.entries ≡ l.place;
  events : l.snap ≡ fold after l.fn.snap (replicate (l.place - length l.fn.host.entries) (Cover l.number));
}
