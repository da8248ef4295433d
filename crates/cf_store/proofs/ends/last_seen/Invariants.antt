use Rattle.std.proofs.Common.{◌≡◌, ◌<◌, ◌∷◌, [], ℕ, length, get_or}
use Rattle.cf_store.specs.Spans.{passes_of, seen_each}
use Rattle.cf_store.proofs.ends.last_seen.Given as goal

abbrev pub invariant-loop-k : goal.invariant-loop-k
invariant-loop-k l = record {
  tail : l.tail ≡ length (get_or (seen_each (l.first ∷ passes_of l.rest)) l.k []);
  full : (k : ℕ) → k < l.k → length (get_or (seen_each (l.first ∷ passes_of l.rest)) k []) ≡ l.capacity;
}
