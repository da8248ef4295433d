-- The first rows of those that come in parts.
use Rattle.std.proofs.Common.{◌≡◌, ◌-◌, ◌∙◌, ℕ, zero, suc, List, [], ◌∷◌, ◌++◌, length, take, min, sym, ap, ap₂, refl, arith}
use Rattle.std.proofs.lemmas.List.{length-take}
use Rattle.cf_row.specs.Row.{RowValue}

take_both : (n : ℕ) (xs ys : List RowValue) → take n (xs ++ ys) ≡ take n xs ++ take (n - length xs) ys
take_both zero [] ys = refl
take_both zero (x ∷ xs) ys =
    let none : 0 - length (x ∷ xs) ≡ 0 = omega arith in
    sym (ap (λ (n : ℕ). take n ys) none)
take_both (suc n) [] ys =
    let all : suc n - length {A = RowValue} [] ≡ suc n = omega arith in
    sym (ap (λ (m : ℕ). take m ys) all)
take_both (suc n) (x ∷ xs) ys =
    let e : suc n - length (x ∷ xs) ≡ n - length xs = omega arith in
    rw e (ap (λ (zs : List RowValue). x ∷ zs) (take_both n xs ys))

-- behind those that are kept come as many more as there is room for
pub kept_more : (most : ℕ) (all kept more now : List RowValue) → kept ≡ take most all → now ≡ kept ++ take (most - length kept) more
    → now ≡ take most (all ++ more)
kept_more most all kept more now first grown =
    let size : length kept ≡ min most (length all) = ap (λ (rs : List RowValue). length rs) first ∙ length-take most all in
    let left : most - length kept ≡ most - length all = omega (arith, size) in
    grown ∙ ap₂ (λ (xs ys : List RowValue). xs ++ ys) first (ap (λ (n : ℕ). take n more) left) ∙ sym (take_both most all more)
