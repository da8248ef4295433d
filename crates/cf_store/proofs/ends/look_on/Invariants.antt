use Rattle.std.proofs.Common.{◌≡◌, ◌<◌, ◌≤◌, ◌∷◌, [], ℕ, Some, length, get_or, slice_get}
use Rattle.cf_store.specs.Asks.{AsksTail}
use Rattle.cf_store.specs.Spans.{passes_of, seen_each}
use Rattle.cf_store.specs.declared.held.Reader.{Reader}
use Rattle.cf_store.proofs.ends.look_on.Given as goal

abbrev pub invariant-loop-k : goal.invariant-loop-k
invariant-loop-k l = record {
  long : length l.rest ≡ length l.initial.rest;
  tail : l.tail ≡ length (get_or (seen_each (l.first ∷ passes_of l.rest)) l.k []);
  full : (k : ℕ) → k < l.k → length (get_or (seen_each (l.first ∷ passes_of l.rest)) k []) ≡ l.capacity;
  asked : (k : ℕ) (m n : Reader) → k < l.k → slice_get l.initial.rest k ≡ Some m → slice_get l.rest k ≡ Some n → AsksTail m n (length (n.pass.view).seen);
  others : (k : ℕ) → l.k ≤ k → slice_get l.rest k ≡ slice_get l.initial.rest k;
}
