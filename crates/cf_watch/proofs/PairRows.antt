-- Rows as steps, where keys are kept apart.
use Rattle.std.proofs.Common.{◌≡◌, ℕ, List, [], ◌∷◌, map, fold, refl, sym, ap, ◌∙◌, inl, inr}
use Rattle.std.proofs.lemmas.Bool.{cases_Bool, cond-false, cond-true}
use Rattle.cf_row.specs.Row.{RowValue}
use Rattle.cf_shape.specs.Lanes.{ShapeValue, key_of, measure_of, selected_by}
use Rattle.cf_watch.specs.Pairs.{KeptApartValue, apart_after, apart_by, nothing_apart, with_one_apart, with_row_apart}
use Rattle.cf_watch.specs.PairLaws.{PairStep, took, after_pair_step, after_pair_steps}
use Rattle.cf_watch.proofs.Totals.{selected, with_it, without_it}

abbrev pub pair_step : ShapeValue → ℕ → RowValue → PairStep
pair_step shape lane row = took (key_of shape lane row) (apart_by shape lane row) (measure_of shape lane row)

abbrev with_pair : ShapeValue → ℕ → KeptApartValue → RowValue → KeptApartValue
with_pair shape lane kept row = with_one_apart kept (key_of shape lane row) (apart_by shape lane row) (measure_of shape lane row)

steps_from : (shape : ShapeValue) (lane : ℕ) (kept : KeptApartValue) (rows : List RowValue)
    → (fold (with_row_apart shape lane) kept rows).buckets ≡ fold after_pair_step kept.buckets (map (pair_step shape lane) (selected shape lane rows))
steps_from shape lane kept [] = refl
steps_from shape lane kept (row ∷ rows) = elim (cases_Bool (selected_by shape lane row)) [
  | inl takes ↦
      ap (λ (k : KeptApartValue). (fold (with_row_apart shape lane) k rows).buckets) (cond-true (selected_by shape lane row) (with_pair shape lane kept row) kept takes)
      ∙ steps_from shape lane (with_pair shape lane kept row) rows
      ∙ ap (λ rs. fold after_pair_step kept.buckets (map (pair_step shape lane) rs)) (sym (with_it shape lane row rows takes))
  | inr passes ↦
      ap (λ (k : KeptApartValue). (fold (with_row_apart shape lane) k rows).buckets) (cond-false (selected_by shape lane row) (with_pair shape lane kept row) kept passes)
      ∙ steps_from shape lane kept rows
      ∙ ap (λ rs. fold after_pair_step kept.buckets (map (pair_step shape lane) rs)) (sym (without_it shape lane row rows passes))
]

pub rows_are_pair_steps : (shape : ShapeValue) (lane : ℕ) (rows : List RowValue)
    → (apart_after shape lane rows).buckets ≡ after_pair_steps (map (pair_step shape lane) (selected shape lane rows))
rows_are_pair_steps shape lane rows = steps_from shape lane nothing_apart rows
