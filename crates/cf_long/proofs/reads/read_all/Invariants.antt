use Rattle.std.proofs.Common.{◌≡◌, ◌≤◌}
use Rattle.cf_intake.specs.Series.{KeepsSeries}
use Rattle.cf_long.specs.Ends.{IsReadInto}
use Rattle.cf_long.specs.Kept.{KeepsKept}
use Rattle.cf_long.proofs.reads.read_all.Given as goal

abbrev pub invariant-loop-made : goal.invariant-loop-made
invariant-loop-made g l = record {
  read : IsReadInto l.series (g.F.Shelf.files l.fn.shelf) (g.F.Shelf.rest l.shelf) l.long l.ahead;
  series : KeepsSeries l.fn.series l.series;
  keeps : KeepsKept l.fn.long l.long;
  files : g.F.Shelf.files l.shelf ≡ g.F.Shelf.files l.fn.shelf;
  later : g.F.Shelf.faults l.fn.shelf ≤ g.F.Shelf.faults l.shelf;
}
