-- Rows as groups of their own.
use Rattle.std.proofs.Common.{◌≡◌, ℕ, ◌+◌, ◌<◌, ◌≤◌, cond, List, [], ◌∷◌, ◌++◌, length, take, map, filter, flat_map, refl, sym, ap, ap₂, ◌∙◌, inl, inr, arith, append-nil}
use Rattle.std.proofs.lemmas.Bool.{eq-eqb, cases_Bool}
use Rattle.std.proofs.lemmas.List.{map-append, take_more}
use Rattle.std.proofs.lemmas.List.Concat.{flat_map-cons}
use Rattle.std.proofs.lemmas.List.Elements.{filter-append}
use Rattle.std.proofs.lemmas.List.Sums.{sum_by-cons, length-filter, count_by-le-length}
use Rattle.cf_row.specs.Row.{RowValue}
use Rattle.cf_shape.specs.Lanes.{ShapeValue, selected_by, group_key}
use Rattle.cf_plain.specs.Asks.{row_at, no_row}
use Rattle.cf_plain.specs.Groups.{groups, row_group}
use Rattle.cf_plain.specs.Segments.{merged, numbers_in}
use Rattle.cf_plain.proofs.Merging.{Pair}
use Rattle.cf_plain.proofs.Joined.{groups_merge}

module _ (shape : ShapeValue) (lane : ℕ) where
  -- the selected rows, each as a group of its own
  abbrev pub ones : List RowValue → List Pair
  ones rows = map (row_group shape lane) (filter (selected_by shape lane) rows)

  one : (row : RowValue) → groups shape lane (row ∷ []) ≡ cond (selected_by shape lane row) (row_group shape lane row ∷ []) []
  one row = elim (cases_Bool (selected_by shape lane row)) [
    | inl selected ↦ rw selected (rw (selected, eq-eqb (group_key shape lane row) (group_key shape lane row) refl) refl)
    | inr unselected ↦ rw unselected refl
  ]

  ones_first : (row : RowValue) (rows : List RowValue) → ones (row ∷ rows) ≡ cond (selected_by shape lane row) (row_group shape lane row ∷ []) [] ++ ones rows
  ones_first row rows = elim (cases_Bool (selected_by shape lane row)) [
    | inl selected ↦ rw selected refl
    | inr unselected ↦ rw unselected refl
  ]

  -- each row is a list of its own
  abbrev lists : List RowValue → List (List RowValue)
  lists rows = map (λ (row : RowValue). row ∷ []) rows

  ones_are : (rows : List RowValue) → ones rows ≡ flat_map (groups shape lane) (lists rows)
  ones_are [] = refl
  ones_are (row ∷ rows) =
      ones_first row rows ∙ ap₂ (λ (gs hs : List Pair). gs ++ hs) (sym (one row)) (ones_are rows) ∙ sym (flat_map-cons (groups shape lane) (row ∷ []) (lists rows))

  rows_are : (rows : List RowValue) → flat_map (λ (rs : List RowValue). rs) (lists rows) ≡ rows
  rows_are [] = refl
  rows_are (row ∷ rows) = flat_map-cons (λ (rs : List RowValue). rs) (row ∷ []) (lists rows) ∙ ap (λ (rs : List RowValue). row ∷ rs) (rows_are rows)

  -- merged they are the groups of the rows
  pub ones_merge : (rows : List RowValue) → merged (ones rows) ≡ groups shape lane rows
  ones_merge rows = ap merged (ones_are rows) ∙ groups_merge shape lane (lists rows) ∙ ap (groups shape lane) (rows_are rows)

  counted : (rows : List RowValue) → numbers_in (map (row_group shape lane) rows) ≡ length rows
  counted [] = refl
  counted (row ∷ rows) =
      omega (arith, sum_by-cons (λ (g : Pair). g.1.count) (row_group shape lane row) (map (row_group shape lane) rows), counted rows)

  -- they are of no more numbers than there are rows
  pub ones_few : (rows : List RowValue) → numbers_in (ones rows) ≤ length rows
  ones_few rows =
      omega (arith, counted (filter (selected_by shape lane) rows), length-filter (selected_by shape lane) rows, count_by-le-length (selected_by shape lane) rows)

  -- one more row
  pub ones_more : (rows : List RowValue) (row : RowValue) → ones (rows ++ row ∷ []) ≡ ones rows ++ cond (selected_by shape lane row) (row_group shape lane row ∷ []) []
  ones_more rows row =
      ap (map (row_group shape lane)) (filter-append (selected_by shape lane) rows (row ∷ []))
      ∙ map-append (row_group shape lane) (filter (selected_by shape lane) rows) (filter (selected_by shape lane) (row ∷ []))
      ∙ ap (λ (gs : List Pair). ones rows ++ gs) (ones_first row [] ∙ append-nil (cond (selected_by shape lane row) (row_group shape lane row ∷ []) []))

  pub ones_at : (rows : List RowValue) (place : ℕ) (row : RowValue) → place < length rows → row ≡ row_at rows place
      → ones (take (place + 1) rows) ≡ ones (take place rows) ++ cond (selected_by shape lane row) (row_group shape lane row ∷ []) []
  ones_at rows place row lt is =
      ap ones (take_more rows place no_row lt ∙ ap (λ (r : RowValue). take place rows ++ r ∷ []) (sym is)) ∙ ones_more (take place rows) row
