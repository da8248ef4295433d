use Rattle.std.proofs.Common.{◌≡◌, ◌≤◌, ◌+◌, ◌++◌, List, All, length}
use Rattle.cf_row.specs.Row.{RowValue, Fits}
use Rattle.cf_row.specs.Schema6.{attrs_by}
use Rattle.cf_fill.specs.Filling.{IsFilled, KeepsLog, most_waiting}
use Rattle.cf_intake.specs.Reading.{IsReadOn, pieces_left}
use Rattle.cf_fill.proofs.fill.fill_packets.Given as goal

abbrev pub invariant-loop-shelf : goal.invariant-loop-shelf
invariant-loop-shelf g l = record {
  files : g.F.Shelf.files l.shelf ≡ g.F.Shelf.files l.fn.shelf;
  later : g.F.Shelf.faults l.fn.shelf ≤ g.F.Shelf.faults l.shelf;
  schema : l.pieces.schema ≡ l.fn.schema;
  fit : All (Fits (attrs_by l.fn.schema)) l.rows.items;
  few : length l.filling.waiting + length l.rows.items ≤ most_waiting;
  keeps : KeepsLog l.fn.filling l.filling;
  taken : (before : List RowValue) × IsReadOn l.pieces (g.F.Shelf.rest l.fn.shelf) (g.F.Shelf.rest l.shelf) (before ++ l.rows.items)
      × IsFilled l.filling before;
}

abbrev pub decreases-loop-shelf : goal.decreases-loop-shelf
decreases-loop-shelf g l = pieces_left l.pieces
