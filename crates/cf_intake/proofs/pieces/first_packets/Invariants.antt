use Rattle.std.proofs.Common.{◌≡◌, ◌≤◌, ◌-◌, List, All, take}
use Rattle.cf_row.specs.Row.{Fits, RowValue}
use Rattle.cf_row.specs.Schema6.{attrs_by}
use Rattle.cf_intake.specs.Reading.{IsReadOn}
use Rattle.cf_intake.proofs.pieces.first_packets.Given as goal

abbrev pub invariant-loop-alloc : goal.invariant-loop-alloc
invariant-loop-alloc g l = record {
  files : g.F.Shelf.files l.shelf ≡ g.F.Shelf.files l.fn.shelf;
  later : g.F.Shelf.faults l.fn.shelf ≤ g.F.Shelf.faults l.shelf;
  schema : l.pieces.schema ≡ l.fn.schema;
  read : (all : List RowValue) × IsReadOn l.pieces (g.F.Shelf.rest l.fn.shelf) (g.F.Shelf.rest l.shelf) all × (l.rows.items ≡ take l.fn.most all)
      × All (Fits (attrs_by l.fn.schema)) all;
}

abbrev pub decreases-loop-alloc : goal.decreases-loop-alloc
decreases-loop-alloc g l = 65536 - l.pieces.number
