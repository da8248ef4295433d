-- A log of some rows has the same rows, each as often.
use Rattle.std.proofs.Common.{◌≡◌, ℕ, zero, suc, ◌+◌, ◌*◌, ◌%◌, ◌<◌, ◌≤◌, false, cond, List, [], ◌∷◌, length, take, drop, map, ◌==◌, refl, sym, ap, ap₂, ◌∙◌, inl, inr, arith}
use Rattle.std.proofs.lemmas.Bool.{eq-eqb, ne_eqb, cases_eq}
use Rattle.std.proofs.lemmas.List.{take-append-drop, drop-drop, drop_all}
use Rattle.std.proofs.lemmas.List.Sums.{sum_by-cons, sum_by-append}
use Rattle.std.specs.List.{sum_by, range_with_len, AllByRecursion}
use Rattle.cf_row.specs.Row.{RowValue}
use Rattle.cf_row.specs.declared.row.Entry.{Entry}
use Rattle.cf_history.specs.Order.{batch, rows_of, written_by, IsLogOf}

-- a sum over the writers
abbrev over : (ℕ → ℕ) → ℕ → ℕ → ℕ
over f a n = sum_by f (range_with_len a n)

over_more : (f : ℕ → ℕ) (a n : ℕ) → over f a (suc n) ≡ f a + over f (a + 1) n
over_more f a n = sum_by-cons f a (range_with_len (a + 1) n)

over_same : (f g : ℕ → ℕ) (a n : ℕ) → ((w : ℕ) → w < a + n → f w ≡ g w) → over f a n ≡ over g a n
over_same f g a zero same = refl
over_same f g a (suc n) same = over_more f a n ∙ ap₂ (λ x y. x + y) (same a (omega arith)) (over_same f g (a + 1) n (λ w lt. same w (omega (arith, lt))))
    ∙ sym (over_more g a n)

over_zero : (a n : ℕ) → over (λ w. 0) a n ≡ 0
over_zero a zero = refl
over_zero a (suc n) = omega (arith, over_more (λ w. 0) a n, over_zero (a + 1) n)

over_none : (f : ℕ → ℕ) (x c a n : ℕ) → x < a → over (λ w. f w + cond (x == w) c 0) a n ≡ over f a n
over_none f x c a zero lt = refl
over_none f x c a (suc n) lt =
    let off : (x == a) ≡ false = ne_eqb x a (λ e. omega (arith, e, lt)) in
    let rest : over (λ w. f w + cond (x == w) c 0) (a + 1) n ≡ over f (a + 1) n = over_none f x c (a + 1) n (omega (arith, lt)) in
    over_more (λ w. f w + cond (x == w) c 0) a n ∙ rw (off, rest) (omega (arith, over_more f a n))

over_one : (f : ℕ → ℕ) (x c a n : ℕ) → a ≤ x → x < a + n → over (λ w. f w + cond (x == w) c 0) a n ≡ over f a n + c
over_one f x c a zero le lt = absurd (omega (arith, le, lt))
over_one f x c a (suc n) le lt = over_more (λ w. f w + cond (x == w) c 0) a n ∙ elim (cases_eq x a) [
  | inl e ↦
      let rest : over (λ w. f w + cond (x == w) c 0) (a + 1) n ≡ over f (a + 1) n = over_none f x c (a + 1) n (omega (arith, e)) in
      rw (rest, eq-eqb x a e) (omega (arith, over_more f a n))
  | inr ne ↦
      let rest : over (λ w. f w + cond (x == w) c 0) (a + 1) n ≡ over f (a + 1) n + c = over_one f x c (a + 1) n (omega (arith, ne, le)) (omega (arith, lt)) in
      rw (rest, ne_eqb x a ne) (omega (arith, over_more f a n))
]

module _ (g : RowValue → ℕ) where
  one_entry : (w : ℕ) (entry : Entry) (entries : List Entry)
      → sum_by g (written_by w (entry ∷ entries)) ≡ sum_by g (written_by w entries) + cond (entry.writer == w) (g entry.row) 0
  one_entry w entry entries = elim (cases_eq entry.writer w) [
    | inl e ↦ rw (eq-eqb entry.writer w e) (sum_by-cons g entry.row (written_by w entries) ∙ omega arith)
    | inr ne ↦ rw (ne_eqb entry.writer w ne) (omega arith)
  ]

  by_writers : (writers : ℕ) (entries : List Entry) → AllByRecursion (λ entry. entry.writer < writers) entries
      → sum_by g (map (λ entry. entry.row) entries) ≡ over (λ w. sum_by g (written_by w entries)) 0 writers
  by_writers writers [] exist = sym (over_zero 0 writers)
  by_writers writers (entry ∷ entries) exist =
      let rest : sum_by g (map (λ e. e.row) entries) ≡ over (λ w. sum_by g (written_by w entries)) 0 writers = by_writers writers entries exist.1 in
      let split : over (λ w. sum_by g (written_by w (entry ∷ entries))) 0 writers ≡ over
      (λ w. sum_by g (written_by w entries) + cond (entry.writer == w) (g entry.row) 0) 0 writers =
      over_same _ _ 0 writers (λ w lt. one_entry w entry entries) in
      let one : over (λ w. sum_by g (written_by w entries) + cond (entry.writer == w) (g entry.row) 0) 0 writers ≡ over
      (λ w. sum_by g (written_by w entries)) 0 writers + g entry.row =
      over_one (λ w. sum_by g (written_by w entries)) entry.writer (g entry.row) 0 writers (omega arith) (omega (arith, exist.0)) in
      sum_by-cons g entry.row (map (λ e. e.row) entries) ∙ omega (arith, rest, split, one)

  one_row : (writers w k : ℕ) (row : RowValue) (rows : List RowValue)
      → sum_by g (rows_of writers w k (row ∷ rows)) ≡ sum_by g (rows_of writers w (k + 1) rows) + cond (k % writers == w) (g row) 0
  one_row writers w k row rows = elim (cases_eq (k % writers) w) [
    | inl e ↦ rw (eq-eqb (k % writers) w e) (sum_by-cons g row (rows_of writers w (k + 1) rows) ∙ omega arith)
    | inr ne ↦ rw (ne_eqb (k % writers) w ne) (omega arith)
  ]

  by_owners : (writers k : ℕ) (rows : List RowValue) → 0 < writers → sum_by g rows ≡ over (λ w. sum_by g (rows_of writers w k rows)) 0 writers
  by_owners writers k [] some = sym (over_zero 0 writers)
  by_owners writers k (row ∷ rows) some =
      let rest : sum_by g rows ≡ over (λ w. sum_by g (rows_of writers w (k + 1) rows)) 0 writers = by_owners writers (k + 1) rows some in
      let split : over (λ w. sum_by g (rows_of writers w k (row ∷ rows))) 0 writers ≡ over
      (λ w. sum_by g (rows_of writers w (k + 1) rows) + cond (k % writers == w) (g row) 0) 0 writers =
      over_same _ _ 0 writers (λ w lt. one_row writers w k row rows) in
      let lt : k % writers < writers = omega (arith, some) in
      let one : over (λ w. sum_by g (rows_of writers w (k + 1) rows) + cond (k % writers == w) (g row) 0) 0 writers ≡ over
      (λ w. sum_by g (rows_of writers w (k + 1) rows)) 0 writers + g row =
      over_one (λ w. sum_by g (rows_of writers w (k + 1) rows)) (k % writers) (g row) 0 writers (omega arith) (omega (arith, lt)) in
      sum_by-cons g row rows ∙ omega (arith, rest, split, one)

  same_batch : (writers k : ℕ) (entries : List Entry) (rows : List RowValue) → 0 < writers → AllByRecursion (λ entry. entry.writer < writers) entries
      → ((w : ℕ) → w < writers → written_by w entries ≡ rows_of writers w k rows) → sum_by g (map (λ e. e.row) entries) ≡ sum_by g rows
  same_batch writers k entries rows some exist own =
      by_writers writers entries exist ∙ over_same _ _ 0 writers (λ w lt. ap (sum_by g) (own w (omega (arith, lt)))) ∙ sym (by_owners writers k rows some)

  by_batches : (h : Entry → ℕ) (m n b : ℕ) (log : List Entry) (rows : List RowValue)
      → ((c : ℕ) → sum_by h (take m (drop (m * c) log)) ≡ sum_by g (take m (drop (m * c) rows))) → length log ≤ m * (b + n) → length rows ≤ m * (b + n)
      → sum_by h (drop (m * b) log) ≡ sum_by g (drop (m * b) rows)
  by_batches h m zero b log rows same lows highs =
      let at : m * (b + 0) ≡ m * b = ap (λ c. m * c) (omega arith) in
      let no_log : drop (m * b) log ≡ [] = drop_all (m * b) log (omega (arith, lows, at)) in
      let no_rows : drop (m * b) rows ≡ [] = drop_all (m * b) rows (omega (arith, highs, at)) in
      rw (no_log, no_rows) refl
  by_batches h m (suc n) b log rows same lows highs =
      let far : m * (b + suc n) ≡ m * (b + 1 + n) = ap (λ c. m * c) (omega arith) in
      let rest : sum_by h (drop (m * (b + 1)) log) ≡ sum_by g (drop (m * (b + 1)) rows) =
      by_batches h m n (b + 1) log rows same (omega (arith, lows, far)) (omega (arith, highs, far)) in
      let at : m * b + m ≡ m * (b + 1) = omega arith in
      let log_is : drop m (drop (m * b) log) ≡ drop (m * (b + 1)) log = drop-drop m (m * b) log ∙ ap (λ c. drop c log) at in
      let rows_is : drop m (drop (m * b) rows) ≡ drop (m * (b + 1)) rows = drop-drop m (m * b) rows ∙ ap (λ c. drop c rows) at in
      let log_whole : sum_by h (drop (m * b) log) ≡ sum_by h (take m (drop (m * b) log)) + sum_by h (drop (m * (b + 1)) log) =
      ap (sum_by h) (sym (take-append-drop m (drop (m * b) log))) ∙ sum_by-append h (take m (drop (m * b) log)) (drop m (drop (m * b) log))
      ∙ ap (λ (xs : List Entry). sum_by h (take m (drop (m * b) log)) + sum_by h xs) log_is in
      let rows_whole : sum_by g (drop (m * b) rows) ≡ sum_by g (take m (drop (m * b) rows)) + sum_by g (drop (m * (b + 1)) rows) =
      ap (sum_by g) (sym (take-append-drop m (drop (m * b) rows))) ∙ sum_by-append g (take m (drop (m * b) rows)) (drop m (drop (m * b) rows))
      ∙ ap (λ (xs : List RowValue). sum_by g (take m (drop (m * b) rows)) + sum_by g xs) rows_is in
      let here : sum_by h (take m (drop (m * b) log)) ≡ sum_by g (take m (drop (m * b) rows)) = same b in
      omega (arith, log_whole, rows_whole, here, rest)

  sum_map : (entries : List Entry) → sum_by (λ e. g e.row) entries ≡ sum_by g (map (λ e. e.row) entries)
  sum_map [] = refl
  sum_map (entry ∷ entries) = sum_by-cons (λ e. g e.row) entry entries ∙ ap (λ n. g entry.row + n) (sum_map entries)
      ∙ sym (sum_by-cons g entry.row (map (λ e. e.row) entries))

  all_take : (P : Entry → Type 0) (n : ℕ) (xs : List Entry) → AllByRecursion P xs → AllByRecursion P (take n xs)
  all_take P zero xs every = tt
  all_take P (suc n) [] every = tt
  all_take P (suc n) (x ∷ xs) every = (every.0, all_take P n xs every.1)

  all_drop : (P : Entry → Type 0) (n : ℕ) (xs : List Entry) → AllByRecursion P xs → AllByRecursion P (drop n xs)
  all_drop P zero xs every = every
  all_drop P (suc n) [] every = tt
  all_drop P (suc n) (x ∷ xs) every = all_drop P n xs every.1

  pub same_rows : (rows : List RowValue) (writers : ℕ) (log : List Entry) → 0 < writers → IsLogOf rows writers log
      → sum_by g (map (λ e. e.row) log) ≡ sum_by g rows
  same_rows rows writers log some is =
      sym (sum_map log)
      ∙ by_batches (λ e. g e.row) 4096 (length rows) 0 log rows
      (λ b. sum_map (batch b log)
      ∙ same_batch writers (4096 * b) (batch b log) (batch b rows) some
      (all_take (λ e. e.writer < writers) 4096 (drop (4096 * b) log) (all_drop (λ e. e.writer < writers) (4096 * b) log is.exist)) (λ w lt. is.own b w lt))
      (let size = is.size in omega (arith, size)) (omega arith)

pub written_own : (w : ℕ) (e : Entry) (es : List Entry) → e.writer ≡ w → written_by w (e ∷ es) ≡ e.row ∷ written_by w es
written_own w e es own = rw (eq-eqb e.writer w own) refl

pub written_other : (w : ℕ) (e : Entry) (es : List Entry) → (e.writer ≡ w → ⊥) → written_by w (e ∷ es) ≡ written_by w es
written_other w e es other = rw (ne_eqb e.writer w other) refl

-- the writers in order, and what each wrote, leave no choice of the log
pub same_written : (log other : List Entry) → map (λ e. e.writer) log ≡ map (λ e. e.writer) other → ((w : ℕ) → written_by w log ≡ written_by w other)
    → log ≡ other
same_written [] [] order own = refl
same_written [] (e ∷ es) order own = cc
same_written (e ∷ es) [] order own = cc
same_written (e ∷ es) (f ∷ fs) order own =
    let writer : e.writer ≡ f.writer = cc in
    let later : map (λ (x : Entry). x.writer) es ≡ map (λ (x : Entry). x.writer) fs = cc in
    let here : e.row ∷ written_by e.writer es ≡ f.row ∷ written_by e.writer fs = sym (written_own e.writer e es refl) ∙ own e.writer
    ∙ written_own e.writer f fs (sym writer) in
    let row : e.row ≡ f.row = cc in
    let rest : es ≡ fs = same_written es fs later (λ w. elim (cases_eq e.writer w) [
      | inl mine ↦ let both : e.row ∷ written_by w es ≡ f.row ∷ written_by w fs = sym (written_own w e es mine) ∙ own w
          ∙ written_own w f fs (sym writer ∙ mine) in cc
      | inr other ↦ sym (written_other w e es other) ∙ own w ∙ written_other w f fs (λ mine. other (writer ∙ mine))
    ]) in
    ap₂ (λ (x : Entry) (xs : List Entry). x ∷ xs) (ap₂ (λ (w : ℕ) (r : RowValue). record { writer = w; row = r }) writer row) rest
