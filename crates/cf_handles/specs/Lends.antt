-- What a handle leads to can be lent.
use Rattle.std.specs.Prelude.{◌≡◌, Option, Some, None, OnSome, IfNone}
use Rattle.std.specs.Borrow.{LendsSo, MutBor, Fml}
use denote.RattleType.{RattleType}
use Rattle.cf_handles.specs.declared.handle.Handle.{Handle}
use Rattle.cf_handles.specs.contracts.handle.Handle.{the_row as handle_row}

-- once the borrow ends, the handle leads to the last value behind it
abbrev pub lends_some : (R : RattleType) → MutBor (Handle R.Denot) → Option (MutBor R.Denot) → Fml
lends_some R s r = LendsSo (handle_row R) R s r (λ n w. OnSome r (n.seat.held ≡ Some w)) (λ n. IfNone r (n.seat.held ≡ None))
