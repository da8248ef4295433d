-- The order of one writer: its rows one after the other.
use Rattle.std.proofs.Common.{◌≡◌, ℕ, zero, suc, ◌+◌, ◌*◌, ◌%◌, ◌<◌, cond, List, [], ◌∷◌, ◌++◌, length, take, map, replicate, slice_get, ◌==◌, Some, refl, sym, ap, subst, ◌∙◌, arith, append_assoc, length-append}
use Rattle.std.specs.List.{count_by, AllByRecursion}
use Rattle.std.proofs.lemmas.List.Sums.{sum_by-append}
use Rattle.cf_row.specs.Row.{RowValue}
use Rattle.cf_row.specs.declared.row.Entry.{Entry}
use Rattle.cf_history.specs.Order.{log_after, log_of}

-- all entries of one writer
abbrev pub alone : List RowValue → List Entry
alone rows = map (λ row. record { writer = 0; row = row }) rows

slice_get_seam : {X : Type 0} (before after : List X) (x : X) → slice_get (before ++ x ∷ after) (length before) ≡ Some x
slice_get_seam [] after x = refl
slice_get_seam (y ∷ before) after x = slice_get_seam before after x

log_alone : (past rows : List RowValue) (before : List ℕ) → count_by (λ w. w == 0) before ≡ length past
    → log_after (past ++ rows) 1 before (replicate (length rows) 0) ≡ alone rows
log_alone past [] before same = refl
log_alone past (row ∷ rows) before same =
    let more : count_by (λ w. w == 0) (before ++ 0 ∷ []) ≡ length (past ++ row ∷ []) = sum_by-append (λ w. cond (w == 0) 1 0) before (0 ∷ [])
    ∙ ap (λ n. n + 1) same ∙ sym (length-append past (row ∷ [])) in
    let place : count_by (λ w. w == 0) before * 1 + 0 ≡ length past = omega (arith, same) in
    let rest : log_after (past ++ row ∷ rows) 1 (before ++ 0 ∷ []) (replicate (length rows) 0) ≡ alone rows =
    subst (λ (xs : List RowValue). log_after xs 1 (before ++ 0 ∷ []) (replicate (length rows) 0) ≡ alone rows) (append_assoc past (row ∷ []) rows)
    (log_alone (past ++ row ∷ []) rows (before ++ 0 ∷ []) more) in
    rw (place, slice_get_seam past rows row, rest) refl

pub log_of_one : (rows : List RowValue) → log_of rows 1 (replicate (length rows) 0) ≡ alone rows
log_of_one rows = log_alone [] rows [] refl

pub every_take : {X : Type 0} (P : X → Type 0) (n : ℕ) (xs : List X) → AllByRecursion P xs → AllByRecursion P (take n xs)
every_take P zero xs every = tt
every_take P (suc n) [] every = tt
every_take P (suc n) (x ∷ xs) every = (every.0, every_take P n xs every.1)
