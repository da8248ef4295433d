use Rattle.std.proofs.Common.{◌≡◌, ◌≤◌, List, All, length}
use Rattle.cf_row.specs.Row.{Fits, RowValue}
use Rattle.cf_project.specs.Keeping.{keep}
use Rattle.cf_intake.specs.Series.{IsSeriesAt, KeepsSeries}
use Rattle.cf_long.specs.Ahead.{IsAhead}
use Rattle.cf_long.proofs.ahead.Ahead.of.Given as goal

abbrev pub invariant-loop-made : goal.invariant-loop-made
invariant-loop-made g l = record {
  series : KeepsSeries l.initial.series l.series;
  files : g.F.Shelf.files l.shelf ≡ g.F.Shelf.files l.initial.shelf;
  ahead : (rows : List RowValue) → IsSeriesAt l.initial.series (g.F.Shelf.files l.initial.shelf) (g.F.Shelf.rest l.initial.shelf) rows
      → IsAhead l.series (g.F.Shelf.files l.shelf) (g.F.Shelf.rest l.shelf) l.marks rows l.ahead;
  fit : All (Fits (keep l.marks l.schema)) l.ahead.rows.items;
  few : length l.ahead.rows.items ≤ 18431;
  later : g.F.Shelf.faults l.initial.shelf ≤ g.F.Shelf.faults l.shelf;
}
