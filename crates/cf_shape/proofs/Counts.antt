-- The number of words of cells.
use Rattle.std.proofs.Common.{◌≡◌, ℕ, ◌+◌, ◌*◌, ◌<◌, ◌≤◌, List, [], ◌∷◌, length, drop, get_or, Option, Some, None, refl, arith, ap, sym, ◌∙◌}
use Rattle.std.proofs.lemmas.List.{drop_more, drop_all}
use Rattle.cf_shape.specs.declared.lane.Lane.{Lane}
use Rattle.cf_shape.specs.Uses.{cell_count, cell_words, has_measure}

measure_low : (m : Option ℕ) → Rattle.std.specs.Prelude.cond (has_measure m) 3 1 ≤ 3
measure_low None = omega arith
measure_low (Some a) = omega arith

cell_low : (lane : Lane) → cell_words lane ≤ 3
cell_low lane = measure_low lane.measure

pub count_none : cell_count [] ≡ 0
unfolding cell_count
count_none = refl

pub count_cons : (x : Lane) (xs : List Lane) → cell_count (x ∷ xs) ≡ cell_words x + cell_count xs
unfolding cell_count
count_cons x xs = refl

pub count_low : (lanes : List Lane) → cell_count lanes ≤ 3 * length lanes
count_low [] = omega (arith, count_none)
count_low (x ∷ xs) = omega (arith, count_cons x xs, cell_low x, count_low xs)

pub count_step : (xs : List Lane) (i : ℕ) (x : Lane) → i < length xs → x ≡ get_or xs i x → cell_count (drop i xs) ≡ cell_words x + cell_count (drop (i + 1) xs)
count_step xs i x lt is =
    ap cell_count (drop_more xs i x lt)
    ∙ (count_cons (get_or xs i x) (drop (i + 1) xs) ∙ ap (λ (a : Lane). cell_words a + cell_count (drop (i + 1) xs)) (sym is))

pub count_end : (xs : List Lane) (i : ℕ) → length xs ≤ i → cell_count (drop i xs) ≡ 0
count_end xs i le = ap cell_count (drop_all i xs le) ∙ count_none
