-- Parts of a log and of the rows in it.
use Rattle.std.proofs.Common.{◌≡◌, ℕ, suc, ◌+◌, ◌%◌, ◌≤◌, List, [], ◌∷◌, ◌++◌, length, take, drop, ap, ◌∙◌, inl, inr, arith}
use Rattle.std.proofs.lemmas.Bool.{eq-eqb, ne_eqb, cases_eq}
use Rattle.std.proofs.lemmas.List.{length-drop, take_all, take-append-le, drop_at, drop_all, drop-append-le}
use Rattle.cf_row.specs.Row.{RowValue}
use Rattle.cf_plain.specs.Order.{rows_of}

-- a writer's rows of two parts
pub rows_append : (writers w k : ℕ) (rows more : List RowValue)
    → rows_of writers w k (rows ++ more) ≡ rows_of writers w k rows ++ rows_of writers w (k + length rows) more
rows_append writers w k [] more = ap (λ (n : ℕ). rows_of writers w n more) (let e : k ≡ k + 0 = omega arith in e)
rows_append writers w k (row ∷ rows) more =
    let next : k + 1 + length rows ≡ k + suc (length rows) = omega arith in
    let rest = rows_append writers w (k + 1) rows more ∙ ap (λ (n : ℕ). rows_of writers w (k + 1) rows ++ rows_of writers w n more) next in
    elim (cases_eq (k % writers) w) [
      | inl own ↦ rw (eq-eqb (k % writers) w own) (ap (λ rs. row ∷ rs) rest)
      | inr other ↦ rw (ne_eqb (k % writers) w other) rest
    ]

-- a part of a list that goes on, before its end
pub part_before : {X : Type 0} (m j : ℕ) (xs ys : List X) → j + m ≤ length xs → take m (drop j (xs ++ ys)) ≡ take m (drop j xs)
part_before m j xs ys within =
    ap (take m) (drop-append-le j xs ys (omega (arith, within))) ∙ take-append-le m (drop j xs) ys (omega (arith, within, length-drop j xs))

-- the part at its end
pub part_there : {X : Type 0} (m j : ℕ) (xs ys : List X) → length xs ≡ j → length ys ≤ m → take m (drop j (xs ++ ys)) ≡ ys
part_there m j xs ys long few = ap (take m) (drop_at xs ys j long) ∙ take_all m ys few

-- and after all
pub part_after : {X : Type 0} (m j : ℕ) (xs : List X) → length xs ≤ j → take m (drop j xs) ≡ []
part_after m j xs past = ap (take m) (drop_all j xs past) ∙ take_all m [] (omega arith)
