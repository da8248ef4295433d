use Rattle.std.proofs.Common.{◌≡◌, ℕ, ◌+◌, ◌==◌, ◌++◌, true, List, [], ◌∷◌, length, map, refl, sym, ap₂, arith}
use Rattle.std.proofs.lemmas.Bool.{eqb-true}
use Rattle.cf_plain.proofs.finding.places_then.Goals as goal

same : (ns : List ℕ) → ns ≡ map (λ n. 0 + n) ns
same [] = refl
same (n ∷ ns) = ap₂ (λ m ms. m ∷ ms) (omega arith) (same ns)

behind_none : (ms ns : List ℕ) → true ≡ (length ms == 0) → ns ≡ ms ++ map (λ n. 0 + n) ns
behind_none [] ns none = same ns
behind_none (m ∷ ms) ns none = absurd (omega (arith, eqb-true (length (m ∷ ms)) 0 (sym none)))

pub returns-then-is_empty : goal.returns-then-is_empty
returns-then-is_empty c = rw (c.if-base-eq0.true, sym c.as_slice.ensures) (behind_none c.as_slice.result.now c.args.more c.if-is_empty.ensures)
