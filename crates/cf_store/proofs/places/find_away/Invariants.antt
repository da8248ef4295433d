use Rattle.std.proofs.Common.{◌≡◌, ◌<◌, ℕ, length, true, get_or}
use Rattle.std.specs.Option.{is_some}
use Rattle.cf_store.specs.Homes.{HaveLooked, PlaceValue}
use Rattle.cf_store.proofs.places.find_away.Given as goal

abbrev pub invariant-loop-k : goal.invariant-loop-k
invariant-loop-k l = record {
  count : l.count ≡ length l.places;
  looked : HaveLooked l.initial.places l.places;
  home : (j : ℕ) (d : PlaceValue) → j < l.k → is_some (get_or l.places j d).home ≡ true;
}
