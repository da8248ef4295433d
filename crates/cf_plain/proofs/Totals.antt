-- Totals and groups know no order of the rows.
use Rattle.std.proofs.Common.{◌≡◌, ℕ, ◌+◌, Bool, true, false, cond, not, ◌&&◌, ◌==◌, List, [], ◌∷◌, length, map, filter, refl, sym, ap, ap₂, ◌∙◌, inl, inr, arith}
use Rattle.std.specs.List.{sum_by, count_by}
use Rattle.std.proofs.lemmas.Bool.{cases_Bool}
use Rattle.std.proofs.lemmas.List.Sums.{sum_by-cons}
use Rattle.cf_row.specs.Row.{RowValue}
use Rattle.cf_fold.specs.Quads.{QuadValue}
use Rattle.cf_fold.proofs.Sorted.{AsOften, quad_is_one}
use Rattle.cf_shape.specs.Lanes.{ShapeValue, selected_by, group_key, measure_of}
use Rattle.cf_plain.specs.Asks.{total_over}
use Rattle.cf_plain.specs.Groups.{keys_in, has_key, group_of, groups}
use Rattle.cf_plain.proofs.Rising.{same_keys}

-- each kind of row stands in both lists as often
abbrev pub SameRows : List RowValue → List RowValue → Type 0
SameRows rows others = (g : RowValue → ℕ) → sum_by g rows ≡ sum_by g others

-- how often a number comes from a row that passes
pub count_map : (f : RowValue → ℕ) (p : RowValue → Bool) (n : ℕ) (rows : List RowValue)
    → count_by (λ x. x == n) (map f (filter p rows)) ≡ sum_by (λ row. cond (p row) (cond (f row == n) 1 0) 0) rows
count_map f p n [] = refl
count_map f p n (row ∷ rows) =
    let h : RowValue → ℕ = λ r. cond (p r) (cond (f r == n) 1 0) 0 in
    let rest : count_by (λ x. x == n) (map f (filter p rows)) ≡ sum_by h rows = count_map f p n rows in
    let right : sum_by h (row ∷ rows) ≡ h row + sum_by h rows = sum_by-cons h row rows in
    elim (cases_Bool (p row)) [
      | inl passes ↦
          let here : h row ≡ cond (f row == n) 1 0 = ap (λ b. cond b (cond (f row == n) 1 0) 0) passes in
          let left : count_by (λ x. x == n) (map f (filter p (row ∷ rows))) ≡ cond (f row == n) 1 0 + count_by (λ x. x == n) (map f (filter p rows)) =
          ap (λ b. count_by (λ x. x == n) (map f (cond b (row ∷ filter p rows) (filter p rows)))) passes
          ∙ sum_by-cons (λ x. cond (x == n) 1 0) (f row) (map f (filter p rows)) in
          omega (arith, rest, right, here, left)
      | inr fails ↦
          let here : h row ≡ 0 = ap (λ b. cond b (cond (f row == n) 1 0) 0) fails in
          let left : count_by (λ x. x == n) (map f (filter p (row ∷ rows))) ≡ count_by (λ x. x == n) (map f (filter p rows)) =
          ap (λ b. count_by (λ x. x == n) (map f (cond b (row ∷ filter p rows) (filter p rows)))) fails in
          omega (arith, rest, right, here, left)
    ]

pub often : (f : RowValue → ℕ) (p : RowValue → Bool) (rows others : List RowValue) → SameRows rows others
    → AsOften (map f (filter p rows)) (map f (filter p others))
often f p rows others same n = count_map f p n rows ∙ same (λ row. cond (p row) (cond (f row == n) 1 0) 0) ∙ sym (count_map f p n others)

one : (x y : Bool) (n : ℕ) → cond x n 0 ≡ cond (x && y) n 0 + cond (x && not y) n 0
one true true n = omega arith
one true false n = omega arith
one false y n = refl

pub map_agree : {X Y : Type 0} (f g : X → Y) → ((x : X) → f x ≡ g x) → (xs : List X) → map f xs ≡ map g xs
map_agree f g same [] = refl
map_agree f g same (x ∷ xs) = ap₂ (λ y ys. y ∷ ys) (same x) (map_agree f g same xs)

-- as many rows
length_sum : (rows : List RowValue) → sum_by (λ row. 1) rows ≡ length rows
length_sum [] = refl
length_sum (row ∷ rows) = sum_by-cons (λ r. 1) row rows ∙ omega (arith, length_sum rows)

module _ (shape : ShapeValue) (rows others : List RowValue) (same : SameRows rows others) where
  pub same_total : (lane : ℕ) (p : RowValue → Bool) → total_over shape lane p rows ≡ total_over shape lane p others
  same_total lane p = quad_is_one _ _ (often (measure_of shape lane) p rows others same)

  pub same_groups : (lane : ℕ) → groups shape lane rows ≡ groups shape lane others
  same_groups lane =
      map_agree (group_of shape lane rows) (group_of shape lane others) (λ k. ap (λ (q : QuadValue). (k, q)) (same_total lane (has_key shape lane k)))
      (keys_in shape lane rows)
      ∙ ap (map (group_of shape lane others))
      (same_keys (map (group_key shape lane) (filter (selected_by shape lane) rows)) (map (group_key shape lane) (filter (selected_by shape lane) others))
      (often (group_key shape lane) (selected_by shape lane) rows others same))

  pub same_length : length rows ≡ length others
  same_length = sym (length_sum rows) ∙ same (λ row. 1) ∙ length_sum others
