-- A seat and its parts own what a box at the same types owns.
use mathlib.Core.List.{[], ◌∷◌}
use mir.Syntax.{Args, a_type, impl, tnil, dnil}
use denote.Param.{layouts}
use denote.Param.Laws.{Laws}
use denote.RattleType.{RattleType}
use denote.Signature.{Slot, plain}
use Rattle.std.proofs.alloc.Calls.{Al}
use Rattle.std.proofs.BoxSteps.Form.{Bx, R}
use Rattle.std.specs.contracts.alloc.Global as Heap
use Rattle.std.specs.contracts.impls.GlobalAllocator.TheImpl.{ghosts, dict}
use Rattle.std.proofs.alloc.Global.TheLaws as heap
use Rattle.cf_handles.specs.contracts.parts.Parts as Parts
use Rattle.cf_handles.specs.contracts.seat.Seat as Seat

-- the C library's allocator
abbrev pub al : Al
al = record { row = Heap.the_row; laws = heap.the_row_laws; g = ghosts; d = dict; drops = impl [] tnil dnil }

module _ (X : RattleType) (LX : Laws X) where
  abbrev pub E : Bx
  E = record { row = X; laws = LX; al = al }

  abbrev pub at_X : Args
  at_X = layouts (a_type ∷ []) (X, tt)

  abbrev pub FromParts : Slot 1
  FromParts = plain (λ _. Parts.the_row (R E) Heap.the_row ghosts)

  abbrev pub FromSeat : Slot 1
  FromSeat = plain (λ _. Seat.the_row (R E))
