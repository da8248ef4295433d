-- A valid order and a log in which each row stands once are two forms of one thing.
use Rattle.std.proofs.Common.{◌≡◌, ◌⊎◌, ℕ, zero, suc, ◌+◌, ◌-◌, ◌*◌, ◌/◌, ◌%◌, ◌<◌, ◌≤◌, min, Bool, cond, List, [], ◌∷◌, ◌++◌, length, take, drop, slice_get, ◌==◌, Some, refl, sym, ap, ap₂, subst, get_or, ◌∙◌, inl, inr, arith}
use Rattle.std.proofs.Math.Nat.{add-mod_right, suc-mul, mul-suc}
use Rattle.std.proofs.lemmas.Option.{slice_get-get_or}
use Rattle.std.proofs.Math.Seq.{take-add}
use Rattle.std.proofs.lemmas.Nat.{div-add-mod', mod-mul-add}
use Rattle.std.proofs.lemmas.Bool.{eq-eqb, ne_eqb, cases_eq, cases_lt}
use Rattle.std.proofs.lemmas.List.{length-take, length-drop, length-map, take_all, take-map, drop-map, drop_all, take_at, append_cancel_left, take-append-drop, drop_more}
use Rattle.std.proofs.lemmas.List.Sums.{sum_by-cons, sum_by-append}
use Rattle.std.specs.List.{count_by, range_with_len, AllByRecursion}
use Rattle.cf_row.specs.Row.{RowValue}
use Rattle.cf_row.specs.declared.row.Entry.{Entry}
use Rattle.cf_history.specs.Order.{rows_of, written_by, order_of, log_after, log_of, IsOrder, IsLogOf}
use Rattle.cf_history.proofs.Logs.{written_own, written_other, same_written}

-- the remainder of the next number
next_within : (k n r : ℕ) → k % n ≡ r → r + 1 < n → (k + 1) % n ≡ r + 1
next_within k n r is lt = ap (λ m. m % n) (omega (arith, div-add-mod' k n, is)) ∙ mod-mul-add (k / n) n (r + 1) lt

next_round : (k n r : ℕ) → k % n ≡ r → r + 1 ≡ n → (k + 1) % n ≡ 0
next_round k n r is last =
    let whole : k + 1 ≡ (k / n) * n + 0 + n = omega (arith, div-add-mod' k n, is, last) in
    ap (λ m. m % n) whole ∙ add-mod_right ((k / n) * n + 0) n ∙ mod-mul-add (k / n) n 0 (omega (arith, last))

zero_first : (n : ℕ) → 0 < n → 0 % n ≡ 0
zero_first n some = let e : 0 ≡ 0 * n + 0 = omega arith in ap (λ k. k % n) e ∙ mod-mul-add 0 n 0 some

-- parts of the numbers from 0 on
range_drop : (j a n : ℕ) → drop j (range_with_len a n) ≡ range_with_len (a + j) (n - j)
range_drop zero a n = let e : a + 0 ≡ a = omega arith in let f : n - 0 ≡ n = omega arith in rw (e, f) refl
range_drop (suc j) a zero = let e : 0 - suc j ≡ 0 = omega arith in rw e refl
range_drop (suc j) a (suc n) = let e : a + suc j ≡ a + 1 + j = omega arith in let f : suc n - suc j ≡ n - j = omega arith in rw (e, f) (range_drop j (a + 1) n)

range_take : (m a n : ℕ) → take m (range_with_len a n) ≡ range_with_len a (min m n)
range_take zero a n = let e : min 0 n ≡ 0 = omega arith in rw e refl
range_take (suc m) a zero = let e : min (suc m) 0 ≡ 0 = omega arith in rw e refl
range_take (suc m) a (suc n) = let e : min (suc m) (suc n) ≡ suc (min m n) = omega arith in rw e (ap (λ ks. a ∷ ks) (range_take m (a + 1) n))

numbers_part : (m j n : ℕ) → take m (drop j (range_with_len 0 n)) ≡ range_with_len j (min m (n - j))
numbers_part m j n = let e : 0 + j ≡ j = omega arith in ap (take m) (range_drop j 0 n) ∙ rw e (range_take m j (n - j))

-- what one writer wrote, in two parts, and how much it is
pub written_append : (w : ℕ) (es fs : List Entry) → written_by w (es ++ fs) ≡ written_by w es ++ written_by w fs
written_append w [] fs = refl
written_append w (e ∷ es) fs = elim (cases_eq e.writer w) [
  | inl own ↦ written_own w e (es ++ fs) own ∙ rw (written_own w e es own) (ap (λ rs. e.row ∷ rs) (written_append w es fs))
  | inr other ↦ written_other w e (es ++ fs) other ∙ rw (written_other w e es other) (written_append w es fs)
]

count_written : (w : ℕ) (es : List Entry) → count_by (λ v. v == w) (order_of es) ≡ length (written_by w es)
count_written w [] = refl
count_written w (e ∷ es) = sum_by-cons (λ v. cond (v == w) 1 0) e.writer (order_of es) ∙ elim (cases_eq e.writer w) [
  | inl own ↦ rw (written_own w e es own, eq-eqb e.writer w own) (omega (arith, count_written w es))
  | inr other ↦ rw (written_other w e es other, ne_eqb e.writer w other) (omega (arith, count_written w es))
]

-- a writer that isn't there wrote nothing
written_none : (writers w : ℕ) (es : List Entry) → writers ≤ w → AllByRecursion (λ e. e.writer < writers) es → written_by w es ≡ []
written_none writers w [] le exist = refl
written_none writers w (e ∷ es) le exist = written_other w e es (λ own. omega (arith, own, le, exist.0)) ∙ written_none writers w es le exist.1

module _ (writers w : ℕ) where
  own_row : (k : ℕ) (row : RowValue) (rows : List RowValue) → k % writers ≡ w → rows_of writers w k (row ∷ rows) ≡ row ∷ rows_of writers w (k + 1) rows
  own_row k row rows own = rw (eq-eqb (k % writers) w own) refl

  other_row : (k : ℕ) (row : RowValue) (rows : List RowValue) → (k % writers ≡ w → ⊥) → rows_of writers w k (row ∷ rows) ≡ rows_of writers w (k + 1) rows
  other_row k row rows other = rw (ne_eqb (k % writers) w other) refl

  rows_append : (k : ℕ) (xs ys : List RowValue) → rows_of writers w k (xs ++ ys) ≡ rows_of writers w k xs ++ rows_of writers w (k + length xs) ys
  rows_append k [] ys = let e : k + 0 ≡ k = omega arith in rw e refl
  rows_append k (x ∷ xs) ys =
      let e : k + suc (length xs) ≡ k + 1 + length xs = omega arith in
      elim (cases_eq (k % writers) w) [
        | inl own ↦ own_row k x (xs ++ ys) own ∙ rw (own_row k x xs own, e) (ap (λ rs. x ∷ rs) (rows_append (k + 1) xs ys))
        | inr other ↦ other_row k x (xs ++ ys) other ∙ rw (other_row k x xs other, e) (rows_append (k + 1) xs ys)
      ]

  count_rows : (k : ℕ) (rows : List RowValue) → count_by (λ i. i % writers == w) (range_with_len k (length rows)) ≡ length (rows_of writers w k rows)
  count_rows k [] = refl
  count_rows k (row ∷ rows) = sum_by-cons (λ i. cond (i % writers == w) 1 0) k (range_with_len (k + 1) (length rows)) ∙ elim (cases_eq (k % writers) w) [
    | inl own ↦ rw (own_row k row rows own, eq-eqb (k % writers) w own) (omega (arith, count_rows (k + 1) rows))
    | inr other ↦ rw (other_row k row rows other, ne_eqb (k % writers) w other) (omega (arith, count_rows (k + 1) rows))
  ]

  -- the writer's row number j stands j rounds and d rows further on, where its next row is d rows away
  row_at : (k r d j : ℕ) (rows : List RowValue) → k % writers ≡ r → r < writers → w < writers → d < writers → ((r + d ≡ w) ⊎ (r + d ≡ w + writers))
      → slice_get (rows_of writers w k rows) j ≡ slice_get rows (j * writers + d)
  row_at k r d j [] is lt w_lt d_lt away = refl
  row_at k r zero zero (row ∷ rows) is lt w_lt d_lt away =
      let same : r ≡ w = elim away [ inl e ↦ omega (arith, e) | inr e ↦ absurd (omega (arith, e, lt)) ] in
      let place : 0 * writers + 0 ≡ 0 = omega arith in
      rw (own_row k row rows (is ∙ same), place) refl
  row_at k r zero (suc j) (row ∷ rows) is lt w_lt d_lt away =
      let same : r ≡ w = elim away [ inl e ↦ omega (arith, e) | inr e ↦ absurd (omega (arith, e, lt)) ] in
      let place : suc j * writers + 0 ≡ suc (j * writers + (writers - 1)) = omega (arith, suc-mul j writers, d_lt) in
      rw (own_row k row rows (is ∙ same), place) (elim (cases_lt (r + 1) writers) [
        | inl within ↦ row_at (k + 1) (r + 1) (writers - 1) j rows (next_within k writers r is within) within w_lt (omega (arith, d_lt))
            (inr (omega (arith, same, d_lt)))
        | inr past ↦ row_at (k + 1) 0 (writers - 1) j rows (next_round k writers r is (omega (arith, past, lt))) d_lt w_lt (omega (arith, d_lt))
            (inl (omega (arith, same, past, lt)))
      ])
  row_at k r (suc d) j (row ∷ rows) is lt w_lt d_lt away =
      let apart : k % writers ≡ w → ⊥ = λ own. elim away [ inl e ↦ omega (arith, e, is, own) | inr e ↦ omega (arith, e, is, own, d_lt) ] in
      let place : j * writers + suc d ≡ suc (j * writers + d) = omega arith in
      rw (other_row k row rows apart, place) (elim (cases_lt (r + 1) writers) [
        | inl within ↦ row_at (k + 1) (r + 1) d j rows (next_within k writers r is within) within w_lt (omega (arith, d_lt))
            (elim away [ inl e ↦ inl (omega (arith, e)) | inr e ↦ inr (omega (arith, e)) ])
        | inr past ↦ row_at (k + 1) 0 d j rows (next_round k writers r is (omega (arith, past, lt))) (omega (arith, lt)) w_lt (omega (arith, d_lt))
            (elim away [ inl e ↦ absurd (omega (arith, e, past, w_lt)) | inr e ↦ inl (omega (arith, e, past, lt)) ])
      ])

  own_at : (j : ℕ) (rows : List RowValue) → 0 % writers ≡ 0 → w < writers → slice_get (rows_of writers w 0 rows) j ≡ slice_get rows (j * writers + w)
  own_at j rows none w_lt = row_at 0 0 w j rows none (omega (arith, w_lt)) w_lt w_lt (inl (omega arith))

  -- the number at which a part of the rows begins
  rows_place : (m j : ℕ) (rows : List RowValue)
      → rows_of writers w (0 + length (take j rows)) (take m (drop j rows)) ≡ rows_of writers w j (take m (drop j rows))
  rows_place m j rows = elim (cases_lt (length rows) j) [
    | inl past ↦ rw (drop_all j rows (omega (arith, past)), take_all {A = RowValue} m [] (omega arith)) refl
    | inr within ↦ let e : 0 + length (take j rows) ≡ j = omega (arith, length-take j rows, within) in rw e refl
  ]

-- The log of an order for which there are rows enough has that order, and each writer's next rows.
abbrev none : RowValue
none = record { num = 0; values = [] }

abbrev turns : ℕ → List ℕ → ℕ
turns w order = count_by (λ v. v == w) order

turns_own : (v w : ℕ) (order : List ℕ) → v ≡ w → turns w (v ∷ order) ≡ turns w order + 1
turns_own v w order same = sum_by-cons (λ u. cond (u == w) 1 0) v order ∙ rw (eq-eqb v w same) (omega arith)

turns_other : (v w : ℕ) (order : List ℕ) → (v ≡ w → ⊥) → turns w (v ∷ order) ≡ turns w order
turns_other v w order other = sum_by-cons (λ u. cond (u == w) 1 0) v order ∙ rw (ne_eqb v w other) (omega arith)

turns_append : (w : ℕ) (xs ys : List ℕ) → turns w (xs ++ ys) ≡ turns w xs + turns w ys
turns_append w xs ys = sum_by-append (λ u. cond (u == w) 1 0) xs ys

turns_take : (w i : ℕ) (order : List ℕ) → turns w (take i order) ≤ turns w order
turns_take w i order =
    let whole : turns w order ≡ turns w (take i order) + turns w (drop i order) = ap (turns w) (sym (take-append-drop i order))
    ∙ turns_append w (take i order) (drop i order) in
    omega (arith, whole)

exist_take : (n i : ℕ) (order : List ℕ) → AllByRecursion (λ v. v < n) order → AllByRecursion (λ v. v < n) (take i order)
exist_take n zero order exist = tt
exist_take n (suc i) [] exist = tt
exist_take n (suc i) (v ∷ order) exist = (exist.0, exist_take n i order exist.1)

exist_in : (n : ℕ) (es : List Entry) → AllByRecursion (λ v. v < n) (order_of es) → AllByRecursion (λ e. e.writer < n) es
exist_in n [] exist = tt
exist_in n (e ∷ es) exist = (exist.0, exist_in n es exist.1)

exist_of : (n : ℕ) (es : List Entry) → AllByRecursion (λ e. e.writer < n) es → AllByRecursion (λ v. v < n) (order_of es)
exist_of n [] exist = tt
exist_of n (e ∷ es) exist = (exist.0, exist_of n es exist.1)

module _ (rows : List RowValue) (writers : ℕ) (first : 0 % writers ≡ 0) where
  abbrev Enough : List ℕ → List ℕ → Type 0
  Enough before order = (w : ℕ) → w < writers → turns w before + turns w order ≤ length (rows_of writers w 0 rows)

  enough_next : (v : ℕ) (before order : List ℕ) → Enough before (v ∷ order) → Enough (before ++ v ∷ []) order
  enough_next v before order enough = λ w lt. elim (cases_eq v w) [
    | inl same ↦ omega (arith, enough w lt, turns_append w before (v ∷ []), turns_own v w order same, turns_own v w [] same)
    | inr other ↦ omega (arith, enough w lt, turns_append w before (v ∷ []), turns_other v w order other, turns_other v w [] other)
  ]

  enough_take : (i : ℕ) (before order : List ℕ) → Enough before order → Enough before (take i order)
  enough_take i before order enough = λ w lt. omega (arith, enough w lt, turns_take w i order)

  abbrev next_entry : ℕ → List ℕ → Entry
  next_entry v before = record { writer = v; row = get_or (rows_of writers v 0 rows) (turns v before) none }

  place_within : (v : ℕ) (before order : List ℕ) → v < writers → Enough before (v ∷ order) → turns v before < length (rows_of writers v 0 rows)
  place_within v before order lt enough = omega (arith, enough v lt, turns_own v v order refl)

  log_step : (v : ℕ) (before order : List ℕ) → v < writers → Enough before (v ∷ order)
      → log_after rows writers before (v ∷ order) ≡ next_entry v before ∷ log_after rows writers (before ++ v ∷ []) order
  log_step v before order lt enough =
      let found : slice_get rows (turns v before * writers + v) ≡ Some (get_or (rows_of writers v 0 rows) (turns v before) none) =
      sym (own_at writers v (turns v before) rows first lt)
      ∙ slice_get-get_or (rows_of writers v 0 rows) (turns v before) none (place_within v before order lt enough) in
      rw found refl

  order_after : (before order : List ℕ) → AllByRecursion (λ v. v < writers) order → Enough before order → order_of (log_after rows writers before order) ≡ order
  order_after before [] exist enough = refl
  order_after before (v ∷ order) exist enough =
      rw (log_step v before order exist.0 enough) (ap (λ vs. v ∷ vs) (order_after (before ++ v ∷ []) order exist.1 (enough_next v before order enough)))

  take_after : (i : ℕ) (before order : List ℕ) → AllByRecursion (λ v. v < writers) order → Enough before order
      → take i (log_after rows writers before order) ≡ log_after rows writers before (take i order)
  take_after zero before order exist enough = refl
  take_after (suc i) before [] exist enough = refl
  take_after (suc i) before (v ∷ order) exist enough =
      rw (log_step v before order exist.0 enough, log_step v before (take i order) exist.0 (enough_take (suc i) before (v ∷ order) enough))
      (ap (λ es. next_entry v before ∷ es) (take_after i (before ++ v ∷ []) order exist.1 (enough_next v before order enough)))

  written_after : (w : ℕ) (before order : List ℕ) → w < writers → AllByRecursion (λ v. v < writers) order → Enough before order
      → written_by w (log_after rows writers before order) ≡ take (turns w order) (drop (turns w before) (rows_of writers w 0 rows))
  written_after w before [] lt exist enough = refl
  written_after w before (v ∷ order) lt exist enough =
      let rest : written_by w (log_after rows writers (before ++ v ∷ []) order) ≡ take (turns w order)
      (drop (turns w (before ++ v ∷ [])) (rows_of writers w 0 rows)) =
      written_after w (before ++ v ∷ []) order lt exist.1 (enough_next v before order enough) in
      ap (written_by w) (log_step v before order exist.0 enough) ∙ elim (cases_eq v w) [
        | inl same ↦
            let once : turns w (before ++ v ∷ []) ≡ turns w before + 1 = omega (arith, turns_append w before (v ∷ []), turns_own v w [] same) in
            let more : turns w (v ∷ order) ≡ suc (turns w order) = omega (arith, turns_own v w order same) in
            let within : turns w before < length (rows_of writers w 0 rows) = rw same at (place_within v before order exist.0 enough) in
            let here : get_or (rows_of writers v 0 rows) (turns v before) none ≡ get_or (rows_of writers w 0 rows) (turns w before) none =
            ap (λ u. get_or (rows_of writers u 0 rows) (turns u before) none) same in
            written_own w (next_entry v before) (log_after rows writers (before ++ v ∷ []) order) same
            ∙ rw (more, drop_more (rows_of writers w 0 rows) (turns w before) none within, here, rest, once) refl
        | inr other ↦
            let as_before : turns w (before ++ v ∷ []) ≡ turns w before = omega (arith, turns_append w before (v ∷ []), turns_other v w [] other) in
            written_other w (next_entry v before) (log_after rows writers (before ++ v ∷ []) order) other
            ∙ rest ∙ rw (as_before, turns_other v w order other) refl
      ]

-- what holds of each batch holds of the batches together
prefix_counts : {X Y : Type 0} (p : X → Bool) (q : Y → Bool) (m : ℕ) (xs : List X) (ys : List Y)
    → ((b : ℕ) → count_by p (take m (drop (m * b) xs)) ≡ count_by q (take m (drop (m * b) ys))) → (b : ℕ)
    → count_by p (take (m * b) xs) ≡ count_by q (take (m * b) ys)
prefix_counts p q m xs ys same zero = let e : m * 0 ≡ 0 = omega arith in rw e refl
prefix_counts p q m xs ys same (suc b) =
    let e : m * suc b ≡ m * b + m = mul-suc m b in
    rw (e, take-add (m * b) m xs, take-add (m * b) m ys)
    (sum_by-append (λ x. cond (p x) 1 0) (take (m * b) xs) (take m (drop (m * b) xs))
    ∙ ap₂ (λ i j. i + j) (prefix_counts p q m xs ys same b) (same b)
    ∙ sym (sum_by-append (λ y. cond (q y) 1 0) (take (m * b) ys) (take m (drop (m * b) ys))))

module _ (writers w m : ℕ) where
  abbrev SameBatch : List Entry → List RowValue → ℕ → Type 0
  SameBatch log rows b = written_by w (take m (drop (m * b) log)) ≡ rows_of writers w (m * b) (take m (drop (m * b) rows))

  abbrev SameFront : List Entry → List RowValue → ℕ → Type 0
  SameFront log rows b = written_by w (take (m * b) log) ≡ rows_of writers w 0 (take (m * b) rows)

  written_front : (log : List Entry) (b : ℕ) → written_by w (take (m * suc b) log) ≡ written_by w (take (m * b) log) ++ written_by w (take m (drop (m * b) log))
  written_front log b = ap (λ i. written_by w (take i log)) (mul-suc m b) ∙ ap (written_by w) (take-add (m * b) m log)
      ∙ written_append w (take (m * b) log) (take m (drop (m * b) log))

  rows_front : (rows : List RowValue) (b : ℕ)
      → rows_of writers w 0 (take (m * suc b) rows) ≡ rows_of writers w 0 (take (m * b) rows) ++ rows_of writers w (m * b) (take m (drop (m * b) rows))
  rows_front rows b =
      ap (λ i. rows_of writers w 0 (take i rows)) (mul-suc m b) ∙ ap (rows_of writers w 0) (take-add (m * b) m rows)
      ∙ rows_append writers w 0 (take (m * b) rows) (take m (drop (m * b) rows))
      ∙ ap (λ rs. rows_of writers w 0 (take (m * b) rows) ++ rs) (rows_place writers w m (m * b) rows)

  front_from_batches : (log : List Entry) (rows : List RowValue) → ((b : ℕ) → SameBatch log rows b) → (b : ℕ) → SameFront log rows b
  front_from_batches log rows same zero = let e : m * 0 ≡ 0 = omega arith in rw e refl
  front_from_batches log rows same (suc b) = written_front log b ∙ ap₂ (λ xs ys. xs ++ ys) (front_from_batches log rows same b) (same b)
      ∙ sym (rows_front rows b)

  batch_from_fronts : (log : List Entry) (rows : List RowValue) → ((b : ℕ) → SameFront log rows b) → (b : ℕ) → SameBatch log rows b
  batch_from_fronts log rows same b =
      append_cancel_left (rows_of writers w 0 (take (m * b) rows)) _ _
      (ap (λ xs. xs ++ written_by w (take m (drop (m * b) log))) (sym (same b)) ∙ sym (written_front log b) ∙ same (suc b) ∙ rows_front rows b)

  -- how many rows a writer has in a part
  count_part : (j : ℕ) (rows : List RowValue)
      → count_by (λ i. i % writers == w) (take m (drop j (range_with_len 0 (length rows)))) ≡ length (rows_of writers w j (take m (drop j rows)))
  count_part j rows =
      let long : min m (length rows - j) ≡ length (take m (drop j rows)) = sym (length-take m (drop j rows) ∙ ap (min m) (length-drop j rows)) in
      ap (count_by (λ i. i % writers == w)) (numbers_part m j (length rows) ∙ ap (range_with_len j) long) ∙ count_rows writers w j (take m (drop j rows))

count_front : (writers w i : ℕ) (rows : List RowValue)
    → count_by (λ k. k % writers == w) (take i (range_with_len 0 (length rows))) ≡ length (rows_of writers w 0 (take i rows))
count_front writers w i rows =
    ap (count_by (λ k. k % writers == w)) (range_take i 0 (length rows) ∙ ap (range_with_len 0) (sym (length-take i rows)))
    ∙ count_rows writers w 0 (take i rows)

module _ (rows : List RowValue) (writers m : ℕ) (first : 0 % writers ≡ 0) (reach : (n : ℕ) → n ≤ m * n) where
  module _ (order : List ℕ) (size : length order ≡ length rows) (exist : AllByRecursion (λ v. v < writers) order)
      (fair : (b w : ℕ) → w < writers
      → turns w (take m (drop (m * b) order)) ≡ count_by (λ k. k % writers == w) (take m (drop (m * b) (range_with_len 0 (length rows))))) where
    turns_front : (b w : ℕ) → w < writers → turns w (take (m * b) order) ≡ length (rows_of writers w 0 (take (m * b) rows))
    turns_front b w lt = prefix_counts (λ v. v == w) (λ k. k % writers == w) m order (range_with_len 0 (length rows)) (λ c. fair c w lt) b
        ∙ count_front writers w (m * b) rows

    turns_whole : (w : ℕ) → w < writers → turns w order ≡ length (rows_of writers w 0 rows)
    turns_whole w lt =
        let far = reach (length rows) in
        sym (ap (turns w) (take_all (m * length rows) order (omega (arith, far, size)))) ∙ turns_front (length rows) w lt
        ∙ ap (λ rs. length (rows_of writers w 0 rs)) (take_all (m * length rows) rows far)

    enough_whole : Enough rows writers first [] order
    enough_whole = λ w lt. omega (arith, turns_whole w lt)

    order_is : order_of (log_of rows writers order) ≡ order
    order_is = order_after rows writers first [] order exist enough_whole

    log_front : (b w : ℕ) → w < writers → SameFront writers w m (log_of rows writers order) rows b
    log_front b w lt =
        let own : rows_of writers w 0 rows ≡ rows_of writers w 0 (take (m * b) rows) ++ rows_of writers w (0 + length (take (m * b) rows)) (drop (m * b) rows) =
        ap (rows_of writers w 0) (sym (take-append-drop (m * b) rows)) ∙ rows_append writers w 0 (take (m * b) rows) (drop (m * b) rows) in
        ap (written_by w) (take_after rows writers first (m * b) [] order exist enough_whole)
        ∙ written_after rows writers first w [] (take (m * b) order) lt (exist_take writers (m * b) order exist)
        (enough_take rows writers first (m * b) [] order enough_whole)
        ∙ ap₂ (λ n rs. take n rs) (turns_front b w lt) own
        ∙ take_at (rows_of writers w 0 (take (m * b) rows)) _ _ refl

    log_batch : (b w : ℕ) → w < writers → SameBatch writers w m (log_of rows writers order) rows b
    log_batch b w lt = batch_from_fronts writers w m (log_of rows writers order) rows (λ c. log_front c w lt) b

  module _ (log : List Entry) (size : length log ≡ length rows) (exist : AllByRecursion (λ e. e.writer < writers) log)
      (same : (b w : ℕ) → w < writers → SameBatch writers w m log rows b) where
    order_part : (b w : ℕ) → w < writers
        → turns w (take m (drop (m * b) (order_of log))) ≡ count_by (λ k. k % writers == w) (take m (drop (m * b) (range_with_len 0 (length rows))))
    order_part b w lt =
        ap (turns w) (ap (take m) (drop-map (λ (e : Entry). e.writer) (m * b) log) ∙ take-map (λ (e : Entry). e.writer) m (drop (m * b) log))
        ∙ count_written w (take m (drop (m * b) log)) ∙ ap length (same b w lt) ∙ sym (count_part writers w m (m * b) rows)

    written_whole : (w : ℕ) → w < writers → written_by w log ≡ rows_of writers w 0 rows
    written_whole w lt =
        let far = reach (length rows) in
        sym (ap (written_by w) (take_all (m * length rows) log (omega (arith, far, size))))
        ∙ front_from_batches writers w m log rows (λ b. same b w lt) (length rows) ∙ ap (rows_of writers w 0) (take_all (m * length rows) rows far)

    turns_of_log : (w : ℕ) → w < writers → turns w (order_of log) ≡ length (rows_of writers w 0 rows)
    turns_of_log w lt = count_written w log ∙ ap length (written_whole w lt)

    enough_log : Enough rows writers first [] (order_of log)
    enough_log = λ w lt. omega (arith, turns_of_log w lt)

    order_again : order_of (log_of rows writers (order_of log)) ≡ order_of log
    order_again = order_after rows writers first [] (order_of log) (exist_of writers log exist) enough_log

    log_again : log ≡ log_of rows writers (order_of log)
    log_again = same_written log (log_of rows writers (order_of log)) (sym order_again) (λ w. elim (cases_lt w writers) [
      | inl lt ↦
          written_whole w lt
          ∙ sym (written_after rows writers first w [] (order_of log) lt (exist_of writers log exist) enough_log
          ∙ take_all (turns w (order_of log)) (rows_of writers w 0 rows) (omega (arith, turns_of_log w lt)))
      | inr le ↦
          written_none writers w log le exist
          ∙ sym (written_none writers w (log_of rows writers (order_of log)) le
          (exist_in writers (log_of rows writers (order_of log))
          (subst (AllByRecursion (λ v. v < writers)) (sym order_again) (exist_of writers log exist))))
    ])

pub log_of_order : (rows : List RowValue) (writers : ℕ) (order : List ℕ) → 0 < writers → IsOrder order (length rows) writers
    → IsLogOf rows writers (log_of rows writers order) × (order_of (log_of rows writers order) ≡ order)
log_of_order rows writers order some is =
    let first : 0 % writers ≡ 0 = zero_first writers some in
    let reach : (n : ℕ) → n ≤ 4096 * n = λ n. omega arith in
    let same : order_of (log_of rows writers order) ≡ order = order_is rows writers 4096 first reach order is.size is.exist is.fair in (
      record {
        size = sym (length-map (log_of rows writers order) (λ e. e.writer)) ∙ ap length same ∙ is.size;
        exist = exist_in writers (log_of rows writers order) (subst (AllByRecursion (λ v. v < writers)) (sym same) is.exist);
        own = log_batch rows writers 4096 first reach order is.size is.exist is.fair;
      },
      same,
    )

pub order_of_log : (rows : List RowValue) (writers : ℕ) (log : List Entry) → 0 < writers → IsLogOf rows writers log
    → IsOrder (order_of log) (length rows) writers × (log ≡ log_of rows writers (order_of log))
order_of_log rows writers log some is =
    let first : 0 % writers ≡ 0 = zero_first writers some in
    let reach : (n : ℕ) → n ≤ 4096 * n = λ n. omega arith in (
      record {
        size = length-map log (λ e. e.writer) ∙ is.size;
        exist = exist_of writers log is.exist;
        fair = order_part rows writers 4096 first reach log is.size is.exist is.own;
      },
      log_again rows writers 4096 first reach log is.size is.exist is.own,
    )

pub log_from_order : (rows : List RowValue) (writers : ℕ) (log : List Entry) → 0 < writers → IsOrder (order_of log) (length rows) writers
    × (log ≡ log_of rows writers (order_of log)) → IsLogOf rows writers log
log_from_order rows writers log some is = subst (IsLogOf rows writers) (sym is.1) (log_of_order rows writers (order_of log) some is.0).0
