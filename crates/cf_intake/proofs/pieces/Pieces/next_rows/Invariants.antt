use Rattle.std.proofs.Common.{◌≡◌, ◌≤◌, ◌<◌, ◌+◌, ◌-◌, ◌++◌, ℕ, List, Option, All, length}
use Rattle.cf_row.specs.Row.{Fits, RowValue}
use Rattle.cf_row.specs.Schema6.{attrs_by}
use Rattle.cf_intake.specs.Reading.{IsReadOn}
use Rattle.cf_intake.proofs.pieces.Pieces.next_rows.Given as goal

abbrev pub invariant-loop-self : goal.invariant-loop-self
invariant-loop-self g l = record {
  files : g.F.Shelf.files l.shelf ≡ g.F.Shelf.files l.fn.shelf;
  later : g.F.Shelf.faults l.fn.shelf ≤ g.F.Shelf.faults l.shelf;
  number : l.fn.self.number < l.self.number;
  read : (before : Option (List ℕ)) (rows : List RowValue) → IsReadOn l.fn.self before (g.F.Shelf.rest l.fn.shelf) rows
      → IsReadOn l.self before (g.F.Shelf.rest l.shelf) (rows ++ l.given.items);
  few : (before : Option (List ℕ)) (rows : List RowValue) → IsReadOn l.fn.self before (g.F.Shelf.rest l.fn.shelf) rows
      → length l.given.items < l.fn.wanted + 4096;
  schema : l.self.schema ≡ l.fn.self.schema;
  fit : All (Fits (attrs_by l.fn.self.schema)) l.given.items;
}

abbrev pub decreases-loop-self : goal.decreases-loop-self
decreases-loop-self g l = 65536 - l.self.number
