-- Totals, and rows as steps.
use Rattle.std.proofs.Common.{◌≡◌, ℕ, ◌+◌, ◌%◌, ◌^◌, true, false, List, [], ◌∷◌, length, map, filter, fold, sum, refl, sym, ap, subst, ◌<◌, ◌∙◌, inl, inr, arith}
use Rattle.std.proofs.lemmas.Bool.{cases_Bool, cond-false, cond-true}
use Rattle.std.proofs.lemmas.List.Sums.{sum_by-cons}
use Rattle.cf_row.specs.Row.{RowValue}
use Rattle.cf_shape.specs.Lanes.{ShapeValue, selected_by, key_of, measure_of}
use Rattle.cf_watch.specs.Kept.{KeptValue, kept_after, nothing_kept, with_one, with_row}
use Rattle.cf_watch.specs.Laws.{Step, took, after_step, after_steps}

abbrev pub selected : ShapeValue → ℕ → List RowValue → List RowValue
selected shape lane rows = filter (selected_by shape lane) rows

abbrev pub row_step : ShapeValue → ℕ → RowValue → Step
row_step shape lane row = took (key_of shape lane row) (measure_of shape lane row)

added : (start n rest all : ℕ) → all ≡ n + rest → ((start + n) % 2 ^ 64 + rest) % 2 ^ 64 ≡ (start + all) % 2 ^ 64
added start n rest all is = omega (arith, is)

-- a row that is selected, and one that isn't
takes_row : (shape : ShapeValue) (lane : ℕ) (kept : KeptValue) (row : RowValue) → selected_by shape lane row ≡ true
    → with_row shape lane kept row ≡ with_one kept (key_of shape lane row) (measure_of shape lane row)
takes_row shape lane kept row takes = cond-true (selected_by shape lane row) (with_one kept (key_of shape lane row) (measure_of shape lane row)) kept takes

passes_row : (shape : ShapeValue) (lane : ℕ) (kept : KeptValue) (row : RowValue) → selected_by shape lane row ≡ false → with_row shape lane kept row ≡ kept
passes_row shape lane kept row passes = cond-false (selected_by shape lane row) (with_one kept (key_of shape lane row) (measure_of shape lane row)) kept passes

pub with_it : (shape : ShapeValue) (lane : ℕ) (row : RowValue) (rows : List RowValue) → selected_by shape lane row ≡ true
    → selected shape lane (row ∷ rows) ≡ row ∷ selected shape lane rows
with_it shape lane row rows takes = cond-true (selected_by shape lane row) (row ∷ selected shape lane rows) (selected shape lane rows) takes

pub without_it : (shape : ShapeValue) (lane : ℕ) (row : RowValue) (rows : List RowValue) → selected_by shape lane row ≡ false
    → selected shape lane (row ∷ rows) ≡ selected shape lane rows
without_it shape lane row rows passes = cond-false (selected_by shape lane row) (row ∷ selected shape lane rows) (selected shape lane rows) passes

abbrev from : ShapeValue → ℕ → KeptValue → List RowValue → KeptValue
from shape lane kept rows = fold (with_row shape lane) kept rows

counts_from : (shape : ShapeValue) (lane : ℕ) (kept : KeptValue) (rows : List RowValue)
    → (from shape lane kept rows).count ≡ kept.count + length (selected shape lane rows)
counts_from shape lane kept [] = omega arith
counts_from shape lane kept (row ∷ rows) = elim (cases_Bool (selected_by shape lane row)) [
  | inl takes ↦
      let len : length (selected shape lane (row ∷ rows)) ≡ length (row ∷ selected shape lane rows) = ap length (with_it shape lane row rows takes) in
      ap (λ k. (from shape lane k rows).count) (takes_row shape lane kept row takes)
      ∙ counts_from shape lane (with_one kept (key_of shape lane row) (measure_of shape lane row)) rows ∙ omega (arith, len)
  | inr passes ↦
      ap (λ k. (from shape lane k rows).count) (passes_row shape lane kept row passes) ∙ counts_from shape lane kept rows
      ∙ ap (λ rs. kept.count + length rs) (sym (without_it shape lane row rows passes))
]

abbrev pub measured : ShapeValue → ℕ → List RowValue → ℕ
measured shape lane rows = sum (map (measure_of shape lane) rows)

sums_from : (shape : ShapeValue) (lane : ℕ) (kept : KeptValue) (rows : List RowValue)
    → (from shape lane kept rows).sum % 2 ^ 64 ≡ (kept.sum + measured shape lane (selected shape lane rows)) % 2 ^ 64
sums_from shape lane kept [] = ap (λ n. n % 2 ^ 64) (omega arith)
sums_from shape lane kept (row ∷ rows) = elim (cases_Bool (selected_by shape lane row)) [
  | inl takes ↦
      let n = measure_of shape lane row in
      let more = sum_by-cons (λ x. x) n (map (measure_of shape lane) (selected shape lane rows)) in
      ap (λ k. (from shape lane k rows).sum % 2 ^ 64) (takes_row shape lane kept row takes)
      ∙ sums_from shape lane (with_one kept (key_of shape lane row) n) rows
      ∙ added kept.sum n (measured shape lane (selected shape lane rows)) (measured shape lane (row ∷ selected shape lane rows)) more
      ∙ ap (λ rs. (kept.sum + measured shape lane rs) % 2 ^ 64) (sym (with_it shape lane row rows takes))
  | inr passes ↦
      ap (λ k. (from shape lane k rows).sum % 2 ^ 64) (passes_row shape lane kept row passes) ∙ sums_from shape lane kept rows
      ∙ ap (λ rs. (kept.sum + measured shape lane rs) % 2 ^ 64) (sym (without_it shape lane row rows passes))
]

sum_is_low : (shape : ShapeValue) (lane : ℕ) (kept : KeptValue) (rows : List RowValue) → kept.sum < 2 ^ 64 → (from shape lane kept rows).sum < 2 ^ 64
sum_is_low shape lane kept [] low = low
sum_is_low shape lane kept (row ∷ rows) low = elim (cases_Bool (selected_by shape lane row)) [
  | inl takes ↦ let P : KeptValue → Type 0 = λ k. (from shape lane k rows).sum < 2 ^ 64 in
      subst P (sym (takes_row shape lane kept row takes))
      (sum_is_low shape lane (with_one kept (key_of shape lane row) (measure_of shape lane row)) rows (omega arith))
  | inr passes ↦ let P : KeptValue → Type 0 = λ k. (from shape lane k rows).sum < 2 ^ 64 in
      subst P (sym (passes_row shape lane kept row passes)) (sum_is_low shape lane kept rows low)
]

pub totals_are : (shape : ShapeValue) (lane : ℕ) (rows : List RowValue)
    → ((kept_after shape lane rows).count ≡ length (selected shape lane rows))
    × ((kept_after shape lane rows).sum ≡ measured shape lane (selected shape lane rows) % 2 ^ 64)
totals_are shape lane rows =
    let low : (kept_after shape lane rows).sum < 2 ^ 64 = sum_is_low shape lane nothing_kept rows (omega arith) in (
      counts_from shape lane nothing_kept rows ∙ omega arith,
      omega (arith, low) ∙ sums_from shape lane nothing_kept rows ∙ ap (λ n. n % 2 ^ 64) (omega arith),
    )

steps_from : (shape : ShapeValue) (lane : ℕ) (kept : KeptValue) (rows : List RowValue)
    → (from shape lane kept rows).buckets ≡ fold after_step kept.buckets (map (row_step shape lane) (selected shape lane rows))
steps_from shape lane kept [] = refl
steps_from shape lane kept (row ∷ rows) = elim (cases_Bool (selected_by shape lane row)) [
  | inl takes ↦
      ap (λ k. (from shape lane k rows).buckets) (takes_row shape lane kept row takes)
      ∙ steps_from shape lane (with_one kept (key_of shape lane row) (measure_of shape lane row)) rows
      ∙ ap (λ rs. fold after_step kept.buckets (map (row_step shape lane) rs)) (sym (with_it shape lane row rows takes))
  | inr passes ↦
      ap (λ k. (from shape lane k rows).buckets) (passes_row shape lane kept row passes) ∙ steps_from shape lane kept rows
      ∙ ap (λ rs. fold after_step kept.buckets (map (row_step shape lane) rs)) (sym (without_it shape lane row rows passes))
]

pub rows_are_steps : (shape : ShapeValue) (lane : ℕ) (rows : List RowValue)
    → (kept_after shape lane rows).buckets ≡ after_steps (map (row_step shape lane) (selected shape lane rows))
rows_are_steps shape lane rows = steps_from shape lane nothing_kept rows
