-- The first rows of a file.
use Rattle.std.proofs.Common.{◌≡◌, ◌≤◌, ◌<◌, ◌+◌, ◌∙◌, ℕ, List, [], ◌∷◌, ◌++◌, length, take, sym, ap, refl, arith, length-append, suc, min}
use Rattle.std.proofs.lemmas.List.{length-take, take_all, take-append-le}
use Rattle.cf_row.specs.declared.schema.Attr.{Attr}
use Rattle.cf_row.specs.Row.{RowValue}
use Rattle.cf_records.specs.Records.{AreRows}

pub none_first : (most : ℕ) (rows : List RowValue) → rows ≡ [] → rows ≡ take most []
none_first most rows none = none ∙ sym (take_all most [] (omega arith))

-- one more row, for which there is room
pub kept_more : (most : ℕ) (all kept now : List RowValue) (row : RowValue) → length kept < most → now ≡ kept ++ (row ∷ []) → kept ≡ take most all
    → now ≡ take most (all ++ (row ∷ []))
kept_more most all kept now row few grown first =
    let size : length kept ≡ min most (length all) = ap (λ (rs : List RowValue). length rs) first ∙ length-take most all in
    let whole : take most all ≡ all = take_all most all (omega (arith, size, few)) in
    let long : length (all ++ (row ∷ [])) ≡ length all + 1 = length-append all (row ∷ []) in
    grown ∙ ap (λ (rs : List RowValue). rs ++ (row ∷ [])) (first ∙ whole) ∙ sym (take_all most (all ++ (row ∷ [])) (omega (arith, size, few, long)))

-- and one for which there is none
pub kept_same : (most : ℕ) (all kept : List RowValue) (row : RowValue) → most ≤ length kept → kept ≡ take most all → kept ≡ take most (all ++ (row ∷ []))
kept_same most all kept row many first =
    let size : length kept ≡ min most (length all) = ap (λ (rs : List RowValue). length rs) first ∙ length-take most all in
    first ∙ sym (take-append-le most all (row ∷ []) (omega (arith, size, many)))

as_many : (attrs : List Attr) (num : ℕ) (records : List (List (List ℕ))) (rows : List RowValue) → AreRows attrs num records rows
    → length rows ≡ length records
as_many attrs num [] [] are = refl
as_many attrs num [] (r ∷ rows) are = absurd are
as_many attrs num (f ∷ records) [] are = absurd are
as_many attrs num (f ∷ records) (r ∷ rows) are = ap (λ (n : ℕ). suc n) (as_many attrs (num + 1) records rows are.2)

-- where there are no more, the first rows are all
pub first_all : (attrs : List Attr) (most : ℕ) (records : List (List (List ℕ))) (all kept : List RowValue) → AreRows attrs 0 records all
    → length records ≤ most → kept ≡ take most all → all ≡ kept
first_all attrs most records all kept are few first =
    let many = as_many attrs 0 records all are in
    sym (first ∙ take_all most all (omega (arith, many, few)))
