-- A window of what is left of records goes as that of the whole ones.
use Rattle.std.proofs.Common.{◌≡◌, ◌∙◌, ℕ, ◌-◌, Bool, true, false, ◌&&◌, not, nat_le, nat_lt, cond, List, [], ◌∷◌, ◌++◌, length, fold, take, drop, get_or, refl, ap, ap₂, sym}
use Rattle.std.proofs.lemmas.List.{drop-map, length-map, map-append, take-map}
use Rattle.cf_row.specs.Row.{RowValue}
use Rattle.cf_shape.specs.Lanes.{IsShape, ShapeValue}
use Rattle.cf_shape.specs.Nodes.{Node, distinct}
use Rattle.cf_window.specs.Windows.{after_row, drops, goes_in, is_refused, is_small, kept_for, last_of, rows_in_all, takes, window, with_last}
use Rattle.cf_project.specs.Named.{KeepsShape}
use Rattle.cf_project.specs.Projected.{row_kept, shape_kept}
use Rattle.cf_project.proofs.Keeping.{map_at}
use Rattle.cf_project.proofs.Meant.{nodes_for_same, nodes_same}
use Rattle.cf_follow.specs.LeftStreams.{reads_left, rows_left}

module _ (marks : List Bool) where
  abbrev left : RowValue → RowValue
  left row = row_kept marks row

  pub all_same : (xs : List (List RowValue)) → rows_in_all (reads_left marks xs) ≡ rows_left marks (rows_in_all xs)
  all_same [] = refl
  all_same (x ∷ xs) = ap (λ (rs : List RowValue). rows_left marks x ++ rs) (all_same xs) ∙ sym (map-append left x (rows_in_all xs))

  pub many_same : (xs : List (List RowValue)) → length (rows_in_all (reads_left marks xs)) ≡ length (rows_in_all xs)
  many_same xs = ap (λ (rs : List RowValue). length rs) (all_same xs) ∙ length-map (rows_in_all xs) left

  pub push_same : (rows : List RowValue) (row : RowValue) → rows_left marks rows ++ left row ∷ [] ≡ rows_left marks (rows ++ row ∷ [])
  push_same rows row = sym (map-append left rows (row ∷ []))

  last_same : (xs : List (List RowValue)) → last_of (reads_left marks xs) ≡ rows_left marks (last_of xs)
  last_same xs =
      ap (λ (n : ℕ). get_or (reads_left marks xs) (n - 1) []) (length-map xs (rows_left marks)) ∙ map_at (rows_left marks) xs (length xs - 1) []

  last_push : (xs : List (List RowValue)) (row : RowValue) → last_of (reads_left marks xs) ++ left row ∷ [] ≡ rows_left marks (last_of xs ++ row ∷ [])
  last_push xs row = ap (λ (rs : List RowValue). rs ++ left row ∷ []) (last_same xs) ∙ push_same (last_of xs) row

  segment_push : (xs : List (List RowValue)) (rows : List RowValue) → reads_left marks xs ++ rows_left marks rows ∷ [] ≡ reads_left marks (xs ++ rows ∷ [])
  segment_push xs rows = sym (map-append (rows_left marks) xs (rows ∷ []))

  with_last_same : (xs : List (List RowValue)) (row : RowValue) → with_last (reads_left marks xs) (left row) ≡ reads_left marks (with_last xs row)
  with_last_same xs row =
      ap₂ (λ (n : ℕ) (rs : List RowValue). take (n - 1) (reads_left marks xs) ++ rs ∷ []) (length-map xs (rows_left marks)) (last_push xs row)
      ∙ (ap (λ (ss : List (List RowValue)). ss ++ rows_left marks (last_of xs ++ row ∷ []) ∷ []) (take-map (rows_left marks) (length xs - 1) xs)
      ∙ segment_push (take (length xs - 1) xs) (last_of xs ++ row ∷ []))

  module _ (shape : ShapeValue) (keeps : KeepsShape marks shape) (lawful : IsShape shape) where
    abbrev less : ShapeValue
    less = shape_kept marks shape

    takes_same : (rows : List RowValue) (row : RowValue) → takes less (rows_left marks rows) (left row) ≡ takes shape rows row
    takes_same rows row =
        ap₂ (λ (n m : ℕ). nat_lt n shape.capacity && nat_le m shape.nodes) (length-map rows left)
        (ap (distinct less) (push_same rows row) ∙ nodes_same marks shape keeps lawful (rows ++ row ∷ []))

    pub small_same : (row : RowValue) → is_small less (left row) ≡ is_small shape row
    small_same row = ap (λ (ns : List Node). nat_le (length ns) shape.nodes) (nodes_for_same marks shape keeps lawful row)

    pub goes_same : (xs : List (List RowValue)) (row : RowValue) → goes_in less (reads_left marks xs) (left row) ≡ goes_in shape xs row
    goes_same xs row =
        ap₂ (λ (n : ℕ) (b : Bool). nat_lt 0 n && b) (length-map xs (rows_left marks))
        (ap (λ (rs : List RowValue). takes less rs (left row)) (last_same xs) ∙ takes_same (last_of xs) row)

    pub refused_same : (xs : List (List RowValue)) (row : RowValue) → is_refused less (reads_left marks xs) (left row) ≡ is_refused shape xs row
    refused_same xs row = ap₂ (λ (a b : Bool). not a && not b) (goes_same xs row) (small_same row)

    module _ (most : ℕ) where
      pub drops_same : (xs : List (List RowValue)) (row : RowValue) → drops less most (reads_left marks xs) (left row) ≡ drops shape most xs row
      drops_same xs row = ap₂ (λ (b : Bool) (n : ℕ). not b && nat_le most n) (goes_same xs row) (length-map xs (rows_left marks))

      cond_same : (b : Bool) (xs ys : List (List RowValue)) → cond b (reads_left marks xs) (reads_left marks ys) ≡ reads_left marks (cond b xs ys)
      cond_same true xs ys = refl
      cond_same false xs ys = refl

      kept_for_same : (xs : List (List RowValue)) (row : RowValue)
          → kept_for less most (reads_left marks xs) (left row) ≡ reads_left marks (kept_for shape most xs row)
      kept_for_same xs row =
          ap₂ (λ (b : Bool) (ss : List (List RowValue)). cond b ss (reads_left marks xs)) (drops_same xs row) (drop-map (rows_left marks) 1 xs)
          ∙ cond_same (drops shape most xs row) (drop 1 xs) xs

      new_same : (xs : List (List RowValue)) (row : RowValue)
          → kept_for less most (reads_left marks xs) (left row) ++ (left row ∷ []) ∷ [] ≡ reads_left marks (kept_for shape most xs row ++ (row ∷ []) ∷ [])
      new_same xs row =
          ap (λ (ss : List (List RowValue)). ss ++ (left row ∷ []) ∷ []) (kept_for_same xs row) ∙ segment_push (kept_for shape most xs row) (row ∷ [])

      pub after_same : (xs : List (List RowValue)) (row : RowValue)
          → after_row less most (reads_left marks xs) (left row) ≡ reads_left marks (after_row shape most xs row)
      after_same xs row =
          ap₂ (λ (b : Bool) (ss : List (List RowValue)). cond b ss (kept_for less most (reads_left marks xs) (left row) ++ (left row ∷ []) ∷ []))
          (goes_same xs row) (with_last_same xs row)
          ∙ (ap (λ (ss : List (List RowValue)). cond (goes_in shape xs row) (reads_left marks (with_last xs row)) ss) (new_same xs row)
          ∙ cond_same (goes_in shape xs row) (with_last xs row) (kept_for shape most xs row ++ (row ∷ []) ∷ []))

      fold_same : (xs : List (List RowValue)) (rows : List RowValue)
          → fold (after_row less most) (reads_left marks xs) (rows_left marks rows)
          ≡ reads_left marks (fold (after_row shape most) xs rows)
      fold_same xs [] = refl
      fold_same xs (row ∷ rows) =
          ap (λ (ss : List (List RowValue)). fold (after_row less most) ss (rows_left marks rows)) (after_same xs row)
          ∙ fold_same (after_row shape most xs row) rows

      pub window_same : (rows : List RowValue) → window less most (rows_left marks rows) ≡ reads_left marks (window shape most rows)
      window_same rows = fold_same [] rows
