-- The rows of segments.
use Rattle.std.proofs.Common.{◌≡◌, ◌∙◌, ℕ, ◌+◌, ◌-◌, ◌*◌, ◌<◌, ◌≤◌, ◌^◌, inl, inr, List, [], ◌∷◌, ◌++◌, length, take, drop, Bool, true, false, not, ◌&&◌, nat_lt, nat_le, slice_index_or, refl, sym, ap, ap₂, arith, length-append, append-nil, append_assoc}
use Rattle.std.proofs.lemmas.Bool.{cases_Bool}
use Rattle.std.proofs.lemmas.Bool.Decides.{nat_tests}
use Rattle.std.proofs.lemmas.List.{take_all, take_more}
use Rattle.std.proofs.lemmas.List.Concat.{flat_map-append}
use Rattle.cf_row.specs.Row.{RowValue}
use Rattle.cf_row.proofs.Bytes.{both}
use Rattle.cf_shape.specs.Lanes.{ShapeValue}
use Rattle.cf_window.specs.Segments.{WindowSegmentValue}
use Rattle.cf_window.specs.Held.{rows_each, with_taken}
use Rattle.cf_window.specs.Windows.{after_row, drops, goes_in, last_of, rows_in_all, takes, with_last}
use Rattle.cf_window.proofs.Dropping.{after_by, out_of}

-- one segment more
pub rows_one : (xs : List (List RowValue)) (rows : List RowValue) → rows_in_all (xs ++ rows ∷ []) ≡ rows_in_all xs ++ rows
rows_one xs rows = flat_map-append (λ (rs : List RowValue). rs) xs (rows ∷ []) ∙ ap (λ (rs : List RowValue). rows_in_all xs ++ rs) (append-nil rows)

-- the first segment, and the others
pub rows_first : (xs : List (List RowValue)) → rows_in_all xs ≡ slice_index_or xs 0 [] ++ rows_in_all (drop 1 xs)
rows_first [] = refl
rows_first (x ∷ xs) = refl

-- the first segments, and the last
split_last : (xs : List (List RowValue)) → 0 < length xs → xs ≡ take (length xs - 1) xs ++ last_of xs ∷ []
split_last xs some =
    let all = take_all (length xs) xs (omega arith) in
    let next : length xs ≡ length xs - 1 + 1 = omega (arith, some) in
    let low : length xs - 1 < length xs = omega (arith, some) in
    sym all ∙ (ap (λ (n : ℕ). take n xs) next ∙ take_more xs (length xs - 1) [] low)

is_some : (xs : List (List RowValue)) → nat_lt 0 (length xs) ≡ true → 0 < length xs
is_some xs is = grind (arith, nat_tests)

-- the row behind those of the last segment
pub rows_with_last : (xs : List (List RowValue)) (row : RowValue) → 0 < length xs → rows_in_all (with_last xs row) ≡ rows_in_all xs ++ row ∷ []
rows_with_last xs row some =
    let front : List (List RowValue) = take (length xs - 1) xs in
    rows_one front (last_of xs ++ row ∷ [])
    ∙ (sym (append_assoc (rows_in_all front) (last_of xs) (row ∷ []))
    ∙ ap (λ (rs : List RowValue). rs ++ row ∷ []) (sym (ap rows_in_all (split_last xs some) ∙ rows_one front (last_of xs))))

pub length_with_last : (xs : List (List RowValue)) (row : RowValue) → 0 < length xs → length (with_last xs row) ≡ length xs
length_with_last xs row some =
    let long = length-append (take (length xs - 1) xs) ((last_of xs ++ row ∷ []) ∷ []) in
    let cut = Rattle.std.proofs.lemmas.List.length-take (length xs - 1) xs in
    omega (arith, long, cut, some)

pub some_in : (shape : ShapeValue) (xs : List (List RowValue)) (row : RowValue) → goes_in shape xs row ≡ true → 0 < length xs
some_in shape xs row is = is_some xs (both (nat_lt 0 (length xs)) (takes shape (last_of xs) row) is).0

after_is : (shape : ShapeValue) (most : ℕ) (xs : List (List RowValue)) (row : RowValue) (b c : Bool) → goes_in shape xs row ≡ b → drops shape most xs row ≡ c
    → after_row shape most xs row ≡ after_by xs row b c
after_is shape most xs row b c goes drop_is = ap₂ (λ (x y : Bool). after_by xs row x y) goes drop_is

-- Where none is dropped the row stands behind all others.
pub rows_kept : (shape : ShapeValue) (most : ℕ) (xs : List (List RowValue)) (row : RowValue) → drops shape most xs row ≡ false
    → rows_in_all (after_row shape most xs row) ≡ rows_in_all xs ++ row ∷ []
rows_kept shape most xs row none = elim (cases_Bool (goes_in shape xs row)) [
  | inl goes ↦ ap rows_in_all (after_is shape most xs row true false goes none) ∙ rows_with_last xs row (some_in shape xs row goes)
  | inr not_in ↦ ap rows_in_all (after_is shape most xs row false false not_in none) ∙ rows_one xs (row ∷ [])
]

-- Where one is dropped it stands behind those of the others.
pub rows_dropped : (shape : ShapeValue) (most : ℕ) (xs : List (List RowValue)) (row : RowValue) → drops shape most xs row ≡ true
    → rows_in_all (after_row shape most xs row) ≡ rows_in_all (drop 1 xs) ++ row ∷ []
rows_dropped shape most xs row is =
    let out : goes_in shape xs row ≡ false = out_of (goes_in shape xs row) (both (not (goes_in shape xs row)) (nat_le most (length xs)) is).0 in
    ap rows_in_all (after_is shape most xs row false true out is) ∙ rows_one (drop 1 xs) (row ∷ [])

-- There are no more segments than there may be.
pub few_after : (shape : ShapeValue) (most : ℕ) (xs : List (List RowValue)) (row : RowValue) → 0 < most → length xs ≤ most
    → length (after_row shape most xs row) ≤ most
few_after shape most xs row some few = elim (cases_Bool (goes_in shape xs row)) [
  | inl goes ↦ goes_case goes
  | inr out ↦ elim (cases_Bool (drops shape most xs row)) [
    | inl is ↦ dropped_case out is
    | inr none ↦ kept_case out none
  ]
]
  where
    goes_case : goes_in shape xs row ≡ true → length (after_row shape most xs row) ≤ most
    goes_case goes =
        let all = ap (λ (ys : List (List RowValue)). length ys) (ap (λ (b : Bool). after_by xs row b (drops shape most xs row)) goes) in
        let same = length_with_last xs row (some_in shape xs row goes) in
        omega (arith, all, same, few)

    dropped_case : goes_in shape xs row ≡ false → drops shape most xs row ≡ true → length (after_row shape most xs row) ≤ most
    dropped_case out is =
        let all = ap (λ (ys : List (List RowValue)). length ys) (after_is shape most xs row false true out is) in
        let long = length-append (drop 1 xs) ((row ∷ []) ∷ []) in
        let cut = Rattle.std.proofs.lemmas.List.length-drop 1 xs in
        omega (arith, all, long, cut, few, some)

    kept_case : goes_in shape xs row ≡ false → drops shape most xs row ≡ false → length (after_row shape most xs row) ≤ most
    kept_case out none =
        let all = ap (λ (ys : List (List RowValue)). length ys) (after_is shape most xs row false false out none) in
        let long = length-append xs ((row ∷ []) ∷ []) in
        let not_full : nat_le most (length xs) ≡ false = sym (ap (λ (b : Bool). not b && nat_le most (length xs)) out) ∙ none in
        let low : length xs < most = grind (arith, nat_tests) in
        omega (arith, all, long, low)

-- The same of a window's segments.
pub count_in : (shape : ShapeValue) (xs ys : List WindowSegmentValue) (row : RowValue) (b : Bool) → b ≡ true → b ≡ goes_in shape (rows_each xs) row
    → rows_each ys ≡ with_taken (rows_each xs) row b → length (rows_in_all (rows_each ys)) ≡ length (rows_in_all (rows_each xs)) + 1
count_in shape xs ys row b is goes are =
    let all = are ∙ ap (λ (c : Bool). with_taken (rows_each xs) row c) is in
    let rows = ap rows_in_all all ∙ rows_with_last (rows_each xs) row (some_in shape (rows_each xs) row (sym goes ∙ is)) in
    ap (λ (rs : List RowValue). length rs) rows ∙ length-append (rows_in_all (rows_each xs)) (row ∷ [])

pub count_out : (xs ys : List WindowSegmentValue) (row : RowValue) (b : Bool) → b ≡ false → rows_each ys ≡ with_taken (rows_each xs) row b
    → length (rows_in_all (rows_each ys)) ≡ length (rows_in_all (rows_each xs))
count_out xs ys row b is are =
    ap (λ (rs : List (List RowValue)). length (rows_in_all rs)) (are ∙ ap (λ (c : Bool). with_taken (rows_each xs) row c) is)

pub count_one : (xs ys : List (List RowValue)) (row : RowValue) → ys ≡ xs ++ (row ∷ []) ∷ [] → length (rows_in_all ys) ≡ length (rows_in_all xs) + 1
count_one xs ys row are = ap (λ (rs : List RowValue). length rs) (ap rows_in_all are ∙ rows_one xs (row ∷ [])) ∙ length-append (rows_in_all xs) (row ∷ [])

pub count_first : (xs : List (List RowValue)) → length (rows_in_all xs) ≡ length (slice_index_or xs 0 []) + length (rows_in_all (drop 1 xs))
count_first xs = ap (λ (rs : List RowValue). length rs) (rows_first xs) ∙ length-append (slice_index_or xs 0 []) (rows_in_all (drop 1 xs))

pub few_rows : (n most capacity : ℕ) → n ≤ most → most * capacity ≤ 2 ^ 20 → n * capacity ≤ 2 ^ 20
few_rows n most capacity low few = (let more = Rattle.std.proofs.Math.Nat.mul-le-mul_right capacity low in omega (arith, more, few))

some_full : (most n : ℕ) → 0 < most → nat_le most n ≡ true → 0 < n
some_full most n some is = grind (arith, nat_tests)

-- where one has to be dropped there is one
pub some_to_drop : (shape : ShapeValue) (most : ℕ) (xs : List (List RowValue)) (row : RowValue) → 0 < most → drops shape most xs row ≡ true → 0 < length xs
some_to_drop shape most xs row some is = some_full most (length xs) some (both (not (goes_in shape xs row)) (nat_le most (length xs)) is).1
