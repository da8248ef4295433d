use Rattle.std.proofs.Common.{◌≡◌, ◌≤◌, ◌-◌, length, take}
use Rattle.std.specs.Io.KnownBytes.{Consumes}
use Rattle.cf_intake.proofs.pieces.read_piece.Given as goal

abbrev pub invariant-loop-filled : goal.invariant-loop-filled
invariant-loop-filled g l = record {
  files : g.F.Shelf.files l.shelf ≡ g.F.Shelf.files l.initial.shelf;
  size : length l.buf ≡ length l.initial.buf;
  within : l.filled ≤ length l.initial.buf;
  taken : Consumes (g.F.Shelf.rest l.initial.shelf) (g.F.Shelf.rest l.shelf) (take l.filled l.buf);
  later : g.F.Shelf.faults l.initial.shelf ≤ g.F.Shelf.faults l.shelf;
}

abbrev pub decreases-loop-filled : goal.decreases-loop-filled
decreases-loop-filled g l = length l.initial.buf - l.filled
