-- The quad of numbers below 2^32 is lawful.
use Rattle.std.proofs.Common.{ℕ, ◌*◌, ◌<◌, ◌≤◌, ◌^◌, List, [], ◌∷◌, length, sum, fold, min, max, refl, arith}
use Rattle.std.specs.List.{AllByRecursion}
use Rattle.std.proofs.lemmas.List.Sums.{sum_by-cons}
use Rattle.cf_fold.specs.Quads.{quad_of, IsQuad}

-- each number is below 2^32
abbrev pub AreLow : List ℕ → Type 0
AreLow xs = AllByRecursion (λ x. x < 2 ^ 32) xs

low_sum : (xs : List ℕ) → AreLow xs → sum xs ≤ length xs * 4294967295
low_sum [] low = omega arith
low_sum (x ∷ xs) low = omega (arith, sum_by-cons (λ y. y) x xs, low.0, low_sum xs low.1)

low_least : (a : ℕ) (xs : List ℕ) → a < 2 ^ 32 → fold min a xs < 2 ^ 32
low_least a [] lt = lt
low_least a (x ∷ xs) lt = low_least (min a x) xs (omega (arith, lt))

low_greatest : (a : ℕ) (xs : List ℕ) → a < 2 ^ 32 → AreLow xs → fold max a xs < 2 ^ 32
low_greatest a [] lt low = lt
low_greatest a (x ∷ xs) lt low = low_greatest (max a x) xs (omega (arith, lt, low.0)) low.1

pub quad_is_lawful : (xs : List ℕ) → AreLow xs → IsQuad (quad_of xs)
quad_is_lawful [] low = record { none = λ e. (refl, refl, refl); bounded = omega arith; least_is_low = omega arith; greatest_is_low = omega arith }
quad_is_lawful (x ∷ xs) low = record {
  none = λ e. absurd (omega (arith, e));
  bounded = low_sum (x ∷ xs) low;
  least_is_low = low_least x xs low.0;
  greatest_is_low = low_greatest x xs low.0 low.1;
}
