-- What a seat holds can be lent.
use Rattle.std.specs.Prelude.{Some}
use Rattle.std.specs.Borrow.{Lends, MutBor, Fml}
use denote.RattleType.{RattleType}
use Rattle.cf_handles.specs.declared.seat.Seat.{Seat}
use Rattle.cf_handles.specs.contracts.seat.Seat.{the_row as seat_row}

-- the seat with that value
abbrev pub with_held : {X : Type 0} → Seat X → X → Seat X
with_held s w = record { ptr = s.ptr; alloc = s.alloc; held = Some w }

-- once the borrow ends, the seat holds the last value behind it
abbrev pub lends_held : (R : RattleType) → MutBor (Seat R.Denot) → MutBor R.Denot → Fml
lends_held R s r = Lends (seat_row R) R s r (with_held s.now)
