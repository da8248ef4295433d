-- The last segment is replaced by what a row made of it.
use Rattle.std.proofs.Common.{◌≡◌, ◌∙◌, ℕ, ◌-◌, ◌<◌, zero, suc, List, [], ◌∷◌, ◌++◌, length, take, set, get_or, Bool, true, false, not, Some, slice_get, slice_index_or, sym, ap, ap₂, refl, arith}
use Rattle.std.proofs.lemmas.List.{length-map, length-set}
use Rattle.std.proofs.lemmas.Option.{slice_get-get_or}
use Rattle.cf_row.specs.Row.{RowValue}
use Rattle.cf_window.specs.Segments.{WindowSegmentValue, with_row}
use Rattle.cf_window.specs.Held.{IsOpenLast, rows_each, with_taken}
use Rattle.cf_window.specs.Windows.{last_of}

rows_set : (xs : List WindowSegmentValue) (k : ℕ) (y : WindowSegmentValue) → suc k ≡ length xs → rows_each (set xs k y) ≡ take k (rows_each xs) ++ y.rows ∷ []
rows_set [] k y e = absurd (omega (arith, e))
rows_set (x ∷ []) zero y e = refl
rows_set (x ∷ []) (suc k) y e = absurd (omega (arith, e))
rows_set (x ∷ z ∷ zs) zero y e = absurd (omega (arith, e))
rows_set (x ∷ z ∷ zs) (suc k) y e = ap (λ (rs : List (List RowValue)). x.rows ∷ rs) (rows_set (z ∷ zs) k y (omega (arith, e)))

rows_same : (xs : List WindowSegmentValue) (k : ℕ) (x y : WindowSegmentValue) → slice_get xs k ≡ Some x → y.rows ≡ x.rows
    → rows_each (set xs k y) ≡ rows_each xs
rows_same [] k x y at same = refl
rows_same (z ∷ zs) zero x y at same =
    let is : z ≡ x = cc at in
    ap (λ (rs : List RowValue). rs ∷ rows_each zs) (same ∙ ap (λ (s : WindowSegmentValue). s.rows) (sym is))
rows_same (z ∷ zs) (suc k) x y at same = ap (λ (rs : List (List RowValue)). z.rows ∷ rs) (rows_same zs k x y at same)

rows_at : (xs : List WindowSegmentValue) (k : ℕ) (x : WindowSegmentValue) → slice_get xs k ≡ Some x → slice_index_or (rows_each xs) k [] ≡ x.rows
rows_at [] k x at = absurd (cc at)
rows_at (z ∷ zs) zero x at = (let is : z ≡ x = cc at in ap (λ (s : WindowSegmentValue). s.rows) is)
rows_at (z ∷ zs) (suc k) x at = rows_at zs k x at

set_at : (xs : List WindowSegmentValue) (k : ℕ) (y : WindowSegmentValue) → k < length xs → slice_get (set xs k y) k ≡ Some y
set_at [] k y low = absurd (omega (arith, low))
set_at (x ∷ xs) zero y low = refl
set_at (x ∷ xs) (suc k) y low = set_at xs k y (omega (arith, low))

module _ (xs : List WindowSegmentValue) (k : ℕ) (x y : WindowSegmentValue) (row : RowValue) (last : suc k ≡ length xs) (is : x ≡ get_or xs k x) where
  at : slice_get xs k ≡ Some x
  at = slice_get-get_or xs k x (omega (arith, last)) ∙ ap (λ (s : WindowSegmentValue). Some s) (sym is)

  end : length (rows_each xs) - 1 ≡ k
  end = (let long = length-map xs (λ (s : WindowSegmentValue). s.rows) in omega (arith, long, last))

  pub rows_taken : (b : Bool) → y.rows ≡ with_row x.rows row b → rows_each (set xs k y) ≡ with_taken (rows_each xs) row b
  rows_taken true e =
      let of_last : last_of (rows_each xs) ≡ x.rows = ap (λ (n : ℕ). slice_index_or (rows_each xs) n []) end ∙ rows_at xs k x at in
      rows_set xs k y last
      ∙ ap₂ (λ (n : ℕ) (rs : List RowValue). take n (rows_each xs) ++ rs ∷ []) (sym end) (e ∙ ap (λ (rs : List RowValue). rs ++ row ∷ []) (sym of_last))
  rows_taken false e = rows_same xs k x y at e

  pub open_still : (b : Bool) → y.is_spent ≡ not b → b ≡ true → IsOpenLast (set xs k y)
  open_still b spent sure z there =
      let ends : length (set xs k y) - 1 ≡ k = (let long = length-set xs k y in omega (arith, long, last)) in
      let both : Some y ≡ Some z = sym (set_at xs k y (omega (arith, last))) ∙ (ap (λ (n : ℕ). slice_get (set xs k y) n) (sym ends) ∙ there) in
      let same : y ≡ z = cc both in
      ap (λ (s : WindowSegmentValue). s.is_spent) (sym same) ∙ (spent ∙ ap not sure)
