-- Groups that are read from words, one by one.
use Rattle.std.proofs.Common.{◌≡◌, ◌∙◌, ◌<◌, ◌≤◌, ◌+◌, ◌^◌, ℕ, List, [], ◌∷◌, ◌++◌, map, zero, suc, inl, inr, ap, subst, sym, arith}
use Rattle.std.specs.List.{range_with_len}
use Rattle.std.proofs.lemmas.List.Sums.{sum_by-append}
use Rattle.std.proofs.lemmas.List.FromFn.{map-range_with_len_more, sum_by-map-range_with_len_more}
use Rattle.std.proofs.lemmas.Bool.{cases_lt}
use Rattle.cf_fold.specs.Quads.{QuadValue}
use Rattle.cf_store.specs.Merges.{CanMerge, groups_in}
use Rattle.cf_plain.specs.declared.answer.Group.{Group}
use Rattle.cf_plain.specs.Groups.{pair_of}
use Rattle.cf_plain.specs.Segments.{numbers_in}

pub each_more : (P : ℕ → Type 0) (n : ℕ) → ((k : ℕ) → k < n → P k) → P n → (k : ℕ) → k < n + 1 → P k
each_more P n before here k lt = elim (cases_lt k n) [
  | inl low ↦ before k low
  | inr le ↦ (let same : n ≡ k = omega (arith, lt, le) in subst P same here)
]

pub range_map_more : {X : Type 0} (f : ℕ → X) (n : ℕ) → map f (range_with_len 0 (n + 1)) ≡ map f (range_with_len 0 n) ++ f n ∷ []
range_map_more f n = map-range_with_len_more f 0 n n (omega arith)

-- the numbers of one more group
pub numbers_more : (f : ℕ → ℕ × QuadValue) (n : ℕ) → numbers_in (map f (range_with_len 0 (n + 1))) ≡ numbers_in (map f (range_with_len 0 n)) + (f n).1.count
numbers_more f n = sum_by-map-range_with_len_more (λ (g : ℕ × QuadValue). g.1.count) f 0 n n (omega arith)

one_more : (n : ℕ) → suc n ≡ n + 1
one_more n = omega arith

-- the numbers of the first groups and of the next are no more than those of all
pub numbers_to : (f : ℕ → ℕ × QuadValue) (n k : ℕ) → k < n
    → numbers_in (map f (range_with_len 0 k)) + (f k).1.count ≤ numbers_in (map f (range_with_len 0 n))
numbers_to f zero k lt = absurd (omega (arith, lt))
numbers_to f (suc n) k lt =
    let all : numbers_in (map f (range_with_len 0 (suc n))) ≡ numbers_in (map f (range_with_len 0 n)) + (f n).1.count =
    ap (λ (i : ℕ). numbers_in (map f (range_with_len 0 i))) (one_more n) ∙ numbers_more f n in
    elim (cases_lt k n) [
      | inl low ↦ (let before = numbers_to f n k low in omega (arith, all, before))
      | inr le ↦ (let same : n ≡ k = omega (arith, lt, le) in
          subst (λ (i : ℕ). numbers_in (map f (range_with_len 0 i)) + (f i).1.count ≤ numbers_in (map f (range_with_len 0 (suc n)))) same
          (omega (arith, all)))
    ]

-- both lists' numbers
pub numbers_both : (gs hs : List (ℕ × QuadValue)) → numbers_in (gs ++ hs) ≡ numbers_in gs + numbers_in hs
numbers_both gs hs = sum_by-append (λ (g : ℕ × QuadValue). g.1.count) gs hs

pub merges_few : (one other : List ℕ) → CanMerge one other → (gs : List Group) → map pair_of gs ≡ groups_in one ++ groups_in other
    → numbers_in (map pair_of gs) ≤ 2 ^ 20
merges_few one other can gs are = subst (λ (ps : List (ℕ × QuadValue)). numbers_in ps ≤ 2 ^ 20) (sym are) can.few
