use Rattle.std.proofs.Common.{◌≡◌, ◌≤◌, ◌+◌, ◌*◌, ◌^◌, List}
use Rattle.cf_row.specs.Row.{RowValue}
use Rattle.cf_row.specs.Schema6.{attrs_by}
use Rattle.cf_intake.specs.Reading.{IsReadOn, pieces_left}
use Rattle.cf_report.specs.Dump.{IsListing}
use Rattle.cf_run.proofs.listed.list_packets.Given as goal

abbrev pub invariant-loop-alloc : goal.invariant-loop-alloc
invariant-loop-alloc g l = record {
  files : g.F.Shelf.files l.shelf ≡ g.F.Shelf.files l.fn.shelf;
  later : g.F.Shelf.faults l.fn.shelf ≤ g.F.Shelf.faults l.shelf;
  schema : l.pieces.schema ≡ l.fn.which;
  few : l.listing.count + 4096 * pieces_left l.pieces ≤ 2 ^ 28;
  taken : (rows : List RowValue) × IsReadOn l.pieces (g.F.Shelf.rest l.fn.shelf) (g.F.Shelf.rest l.shelf) rows × IsListing (attrs_by l.fn.which) rows l.listing;
}

abbrev pub decreases-loop-alloc : goal.decreases-loop-alloc
decreases-loop-alloc g l = pieces_left l.pieces
