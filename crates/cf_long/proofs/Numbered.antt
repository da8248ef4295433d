-- Rows that are numbered on, and the first of them.
use Rattle.std.proofs.Common.{◌≡◌, ◌∙◌, ℕ, zero, suc, ◌+◌, ◌-◌, ◌<◌, ◌≤◌, ◌^◌, List, [], ◌∷◌, ◌++◌, length, take, refl, ap, arith}
use Rattle.std.proofs.lemmas.List.{length-take, take-append-le, take_all}
use Rattle.std.proofs.Math.Seq.{take-append-add}
use Rattle.cf_row.specs.Row.{RowValue}
use Rattle.cf_pcap.specs.Limits.{num_of}
use Rattle.cf_pcap.specs.declared.limit.Length.TheVariants.{Any}
use Rattle.cf_intake.specs.Reads.{numbered_on}
use Rattle.cf_plain.specs.Asks.{row_at}
use Rattle.cf_long.specs.ByRow.{AreNumbered}
use Rattle.cf_long.specs.Ends.{first_rows}

-- their numbers are their places, if these are small
pub numbered_low : (first : ℕ) (rows : List RowValue) → first + length rows < 2 ^ 32 → AreNumbered first (numbered_on first rows)
numbered_low first [] few place low = absurd (omega (arith, low))
numbered_low first (row ∷ rows) few zero low = (let same : num_of Any first ≡ first + 0 = omega (arith, few) in same)
numbered_low first (row ∷ rows) few (suc place) low =
    let on : (row_at (numbered_on (suc first) rows) place).num ≡ suc first + place =
    numbered_low (suc first) rows (omega (arith, few)) place (omega (arith, low)) in
    let sum : suc first + place ≡ first + suc place = omega arith in
    on ∙ sum

pub take_numbered : (n first : ℕ) (rows : List RowValue) → take n (numbered_on first rows) ≡ numbered_on first (take n rows)
take_numbered zero first [] = refl
take_numbered zero first (row ∷ rows) = refl
take_numbered (suc n) first [] = refl
take_numbered (suc n) first (row ∷ rows) =
    ap (λ (rs : List RowValue). record row { num = num_of Any first } ∷ rs) (take_numbered n (suc first) rows)

-- the first of some rows and others
take_both : {A : Type 0} (n : ℕ) (xs ys : List A) → length xs ≤ n → take n (xs ++ ys) ≡ xs ++ take (n - length xs) ys
take_both {A} n xs ys few =
    let at : n ≡ length xs + (n - length xs) = omega (arith, few) in
    ap (λ (m : ℕ). take m (xs ++ ys)) at ∙ take-append-add xs ys (n - length xs)

pub all_first : (rows : List RowValue) → length rows < 2 ^ 32 → first_rows rows ≡ rows
unfolding first_rows
all_first rows few = take_all (2 ^ 32 - 1) rows (omega (arith, few))

pub first_both : (xs ys : List RowValue) → length xs < 2 ^ 32 → first_rows (xs ++ ys) ≡ xs ++ take (2 ^ 32 - 1 - length xs) ys
unfolding first_rows
first_both xs ys few = take_both (2 ^ 32 - 1) xs ys (omega (arith, few))

pub first_few : (rows : List RowValue) → length (first_rows rows) < 2 ^ 32
unfolding first_rows
first_few rows = (let size = length-take (2 ^ 32 - 1) rows in omega (arith, size))

-- where there are as many as are numbered, others change nothing
pub first_full : (xs ys : List RowValue) → 2 ^ 32 ≤ length xs → first_rows (xs ++ ys) ≡ first_rows xs
unfolding first_rows
first_full xs ys many = take-append-le (2 ^ 32 - 1) xs ys (omega (arith, many))

-- the first of more rows are the first of these, and others
pub first_more : (rows more : List RowValue) → (after : List RowValue) × (first_rows (rows ++ more) ≡ first_rows rows ++ after)
unfolding first_rows
first_more rows more = take_more (2 ^ 32 - 1) rows more
  where
    take_more : (n : ℕ) (xs ys : List RowValue) → (after : List RowValue) × (take n (xs ++ ys) ≡ take n xs ++ after)
    take_more zero [] ys = ([], refl)
    take_more (suc n) [] ys = (take (suc n) ys, refl)
    take_more zero (x ∷ xs) ys = ([], refl)
    take_more (suc n) (x ∷ xs) ys =
        let rest = take_more n xs ys in (rest.0, ap (λ (rs : List RowValue). x ∷ rs) rest.1)
