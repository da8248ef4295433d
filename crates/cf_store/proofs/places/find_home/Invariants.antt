use Rattle.std.proofs.Common.{◌≡◌, ◌≤◌, ◌+◌, ℕ, length, Some, slice_get}
use Rattle.cf_store.specs.Homes.{HaveLooked, IsAway, PlaceValue}
use Rattle.cf_store.proofs.places.find_home.Given as goal

abbrev pub invariant-loop-i : goal.invariant-loop-i
invariant-loop-i l = record {
  count : l.count ≡ length l.places;
  looked : HaveLooked l.initial.places l.places;
  away : (k : ℕ) (place : PlaceValue) → l.count ≤ k + l.i → slice_get l.places k ≡ Some place → IsAway place;
}
