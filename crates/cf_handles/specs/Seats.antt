-- What a seat owns: what a box of its value owns, or nothing.
use base.Fml.{Fml, ftrue}
use denote.RattleType.{RattleType}
use denote.RawPtr.{Ptr}
use Rattle.std.specs.Prelude.{Option, Some, None}
use Rattle.std.specs.Box.Ownership.{box_owns}
use Rattle.std.specs.Global.{Global}
use Rattle.std.specs.contracts.impls.GlobalAllocator.TheImpl.{ghosts}

-- nothing, or what a box of that value at the pointer owns
abbrev pub seat_owns : (R : RattleType) → Global → Ptr → Option R.Denot → Fml
seat_owns R alloc p None = ftrue
seat_owns R alloc p (Some x) = box_owns (ghosts.dealloc_token alloc) R p x
