-- What the writers wrote of a batch, and the log with it: lemmas on lists alone.
use Rattle.std.proofs.Common.{◌≡◌, ◌⊎◌, ℕ, zero, suc, ◌+◌, ◌*◌, ◌/◌, ◌%◌, ◌<◌, ◌≤◌, Bool, true, List, [], ◌∷◌, ◌++◌, length, map, take, drop, refl, sym, ap, ap₂, subst, ◌∙◌, inl, inr, arith, length-append}
use Rattle.std.proofs.lemmas.Bool.{eq-eqb, ne_eqb, cases_eq, cases_lt}
use Rattle.std.proofs.lemmas.List.{append-nil, nil_from_length, drop-append-le, length-drop, length-take, drop-map, take-map, take_all}
use Rattle.std.specs.List.{AllByRecursion}
use Rattle.cf_row.proofs.Sums.{more_at, more_elsewhere, more_there, total, total_more, total_most, total_none, total_same}
use Rattle.cf_row.specs.Row.{RowValue}
use Rattle.cf_row.specs.declared.row.Entry.{Entry}
use Rattle.cf_plain.specs.Order.{rows_of, written_by}
use Rattle.cf_plain.proofs.Logs.{written_own, written_other}
use Rattle.cf_plain.proofs.Orders.{written_append}
use Rattle.cf_segments.specs.Loaded.{IsLogFrom}
use Rattle.cf_segments.proofs.Alls.{all_append, all_drop}
use Rattle.cf_segments.proofs.Parts.{part_after, part_before, rows_append}

-- where no number is more than its fellow and the sums are as large, each is its fellow
pub total_even : (n : ℕ) (f g : ℕ → ℕ) → ((w : ℕ) → w < n → f w ≤ g w) → total n g ≤ total n f → (w : ℕ) → w < n → f w ≡ g w
total_even zero f g each all w lt = absurd (omega (arith, lt))
total_even (suc n) f g each all w lt =
    let most : total n f ≤ total n g = total_most n f g (λ v low. each v (omega (arith, low))) in
    let last : f n ≤ g n = each n (omega arith) in
    elim (cases_lt w n) [
      | inl low ↦ total_even n f g (λ v under. each v (omega (arith, under))) (omega (arith, most, last, all)) w low
      | inr high ↦ (let e : n ≡ w = omega (arith, high, lt) in subst (λ v. f v ≡ g v) e (omega (arith, most, last, all)))
    ]

-- one more entry counts for its writer
pub one_entry : (w : ℕ) (e : Entry) (es : List Entry) → length (written_by w (e ∷ es)) ≡ more_at e.writer (λ v. length (written_by v es)) w
one_entry w e es = elim (cases_eq e.writer w) [
  | inl own ↦ ap length (written_own w e es own) ∙ sym (more_there e.writer w (λ v. length (written_by v es)) own)
  | inr other ↦ ap length (written_other w e es other) ∙ sym (more_elsewhere e.writer w (λ v. length (written_by v es)) other)
]

-- one more row counts for its writer
pub one_row : (writers w k : ℕ) (row : RowValue) (rows : List RowValue)
    → length (rows_of writers w k (row ∷ rows)) ≡ more_at (k % writers) (λ v. length (rows_of writers v (k + 1) rows)) w
one_row writers w k row rows = elim (cases_eq (k % writers) w) [
  | inl own ↦ rw (eq-eqb (k % writers) w own) refl
  | inr other ↦ rw (ne_eqb (k % writers) w other) refl
]

-- the entries are those of all writers
pub entries_counted : (writers : ℕ) (es : List Entry) → AllByRecursion (λ e. e.writer < writers) es → total writers (λ w. length (written_by w es)) ≡ length es
entries_counted writers [] exist = total_none writers
entries_counted writers (e ∷ es) exist =
    total_same writers _ (more_at e.writer (λ v. length (written_by v es))) (λ w lt. one_entry w e es)
    ∙ (total_more writers e.writer (λ v. length (written_by v es)) exist.0 ∙ ap suc (entries_counted writers es exist.1))

-- the rows are those of all writers
pub rows_counted : (writers k : ℕ) (rows : List RowValue) → 0 < writers → total writers (λ w. length (rows_of writers w k rows)) ≡ length rows
rows_counted writers k [] some = total_none writers
rows_counted writers k (row ∷ rows) some =
    total_same writers _ (more_at (k % writers) (λ v. length (rows_of writers v (k + 1) rows))) (λ w lt. one_row writers w k row rows)
    ∙ (total_more writers (k % writers) (λ v. length (rows_of writers v (k + 1) rows)) (omega (arith, some)) ∙ ap suc (rows_counted writers (k + 1) rows some))

-- A writer wrote the first of its rows of a batch. Where some are left of a whole one, as many entries came as the batch has rows.
pub record WrotePart (whole : Bool) (writers first : ℕ) (batch : List RowValue) (new : List Entry) (w : ℕ) : Type 0 where
  pub left : List RowValue
  pub split : written_by w new ++ left ≡ rows_of writers w first batch
  pub all : whole ≡ true → (left ≡ []) ⊎ (length batch ≤ length new)

module _ (writers first : ℕ) (batch : List RowValue) (new : List Entry) (some : 0 < writers) (exist : AllByRecursion (λ e. e.writer < writers) new) where
  -- then nothing is left: each writer wrote all its rows of the batch
  pub all_written : ((w : ℕ) → w < writers → WrotePart true writers first batch new w) → (w : ℕ) → w < writers
      → written_by w new ≡ rows_of writers w first batch
  all_written part w lt =
      let p = part w lt in
      let full_part : p.left ≡ [] → written_by w new ≡ rows_of writers w first batch = λ none. sym (append-nil (written_by w new))
      ∙ ap (λ rs. written_by w new ++ rs) (sym none) ∙ p.split in
      elim (p.all refl) [
        | inl none ↦ full_part none
        | inr full ↦ full_part (nil_from_length p.left (nothing_left full))
      ]
    where
      long : (v : ℕ) (low : v < writers) → length (written_by v new) + length (part v low).left ≡ length (rows_of writers v first batch)
      long v low = sym (length-append (written_by v new) (part v low).left) ∙ ap length (part v low).split

      nothing_left : length batch ≤ length new → length (part w lt).left ≡ 0
      nothing_left full =
          let even = total_even writers (λ v. length (written_by v new)) (λ v. length (rows_of writers v first batch)) (λ v low. omega (arith, long v low))
          (omega (arith, entries_counted writers new exist, rows_counted writers first batch some, full)) w lt in
          omega (arith, even, long w lt)

  -- and as many entries came as the batch has rows
  pub as_many : ((w : ℕ) → w < writers → written_by w new ≡ rows_of writers w first batch) → length new ≡ length batch
  as_many own =
      sym (entries_counted writers new exist)
      ∙ (total_same writers _ (λ w. length (rows_of writers w first batch)) (λ w lt. ap length (own w lt)) ∙ rows_counted writers first batch some)

module _ (first : ℕ) (rows batch : List RowValue) (writers b m : ℕ) (log new : List Entry) (apart : (c d : ℕ) → c < d → m * c + m ≤ m * d) where
  -- the last part of a list that goes on, where more is no more than the part has room for
  part_on : {X : Type 0} (j : ℕ) (xs ys : List X) → j ≤ length xs → length xs + length ys ≤ j + m → take m (drop j (xs ++ ys)) ≡ take m (drop j xs) ++ ys
  part_on j xs ys within few =
      let rest = length-drop j xs in
      let all = length-append (drop j xs) ys in
      ap (take m) (drop-append-le j xs ys within)
      ∙ (take_all m (drop j xs ++ ys) (omega (arith, within, few, rest, all))
      ∙ ap (λ (zs : List _). zs ++ ys) (sym (take_all m (drop j xs) (omega (arith, within, few, rest)))))

  -- batch by batch what each writer wrote are its rows, where more rows came that are all of the last batch
  pub own_more : m * b ≤ length rows → length rows + length batch ≤ m * b + m → length log ≡ length rows → length new ≡ length batch
      → ((c w : ℕ) → w < writers → written_by w (take m (drop (m * c) log)) ≡ rows_of writers w (first + m * c) (take m (drop (m * c) rows)))
      → ((w : ℕ) → w < writers → written_by w new ≡ rows_of writers w (first + length rows) batch)
      → (c w : ℕ) → w < writers → written_by w (take m (drop (m * c) (log ++ new))) ≡ rows_of writers w (first + m * c) (take m (drop (m * c) (rows ++ batch)))
  own_more low few log_long many own more c w lt = elim (cases_lt c b) [
    | inl before ↦
        let far = apart c b before in
        rw (part_before m (m * c) log new (omega (arith, far, low, log_long)), part_before m (m * c) rows batch (omega (arith, far, low))) (own c w lt)
    | inr since ↦ elim (cases_lt b c) [
      | inl past ↦
          let far = apart b c past in
          rw (
            part_after m (m * c) (log ++ new) (omega (arith, far, few, log_long, many, length-append log new)),
            part_after m (m * c) (rows ++ batch) (omega (arith, far, few, length-append rows batch)),
          ) refl
      | inr until ↦
          let same : c ≡ b = omega (arith, since, until) in
          subst (λ d. written_by w (take m (drop (m * d) (log ++ new))) ≡ rows_of writers w (first + m * d) (take m (drop (m * d) (rows ++ batch))))
          (sym same) (last w lt)
    ]
  ]
    where
      here : List RowValue
      here = take m (drop (m * b) rows)

      reach : first + m * b + length here ≡ first + length rows
      reach =
          (let rest = length-drop (m * b) rows in let cut = length-take m (drop (m * b) rows) in omega (arith, rest, cut, low, few))

      last : (w : ℕ) → w < writers
          → written_by w (take m (drop (m * b) (log ++ new))) ≡ rows_of writers w (first + m * b) (take m (drop (m * b) (rows ++ batch)))
      last w lt =
          rw (part_on (m * b) log new (omega (arith, low, log_long)) (omega (arith, few, log_long, many)), part_on (m * b) rows batch low few)
          (written_append w (take m (drop (m * b) log)) new
          ∙ (ap₂ (λ (xs ys : List RowValue). xs ++ ys) (own b w lt) (more w lt ∙ ap (λ k. rows_of writers w k batch) (sym reach))
          ∙ sym (rows_append writers w (first + m * b) here batch)))

-- all rows are one writer's
rows_alone : (k : ℕ) (rows : List RowValue) → rows_of 1 0 k rows ≡ rows
rows_alone k [] = refl
rows_alone k (row ∷ rows) =
    let own : k % 1 ≡ 0 = omega arith in
    rw (eq-eqb (k % 1) 0 own) (ap (λ rs. row ∷ rs) (rows_alone (k + 1) rows))

-- and so are all entries
written_alone : (es : List Entry) → AllByRecursion (λ e. e.writer < 1) es → written_by 0 es ≡ map (λ e. e.row) es
written_alone [] exist = refl
written_alone (e ∷ es) exist =
    let own : e.writer ≡ 0 = omega (arith, exist.0) in
    written_own 0 e es own ∙ ap (λ rs. e.row ∷ rs) (written_alone es exist.1)

-- the first of entries that are such
all_front : (P : Entry → Type 0) (n : ℕ) (es : List Entry) → AllByRecursion P es → AllByRecursion P (take n es)
all_front P zero es every = tt
all_front P (suc n) [] every = tt
all_front P (suc n) (e ∷ es) every = (every.0, all_front P n es every.1)

-- one writer's log of its rows is a log of them batch by batch
own_alone : (first : ℕ) (rows : List RowValue) (log : List Entry) → AllByRecursion (λ e. e.writer < 1) log → written_by 0 log ≡ rows_of 1 0 first rows
    → (b w : ℕ) → w < 1 → written_by w (take 4096 (drop (4096 * b) log)) ≡ rows_of 1 w (first + 4096 * b) (take 4096 (drop (4096 * b) rows))
own_alone first rows log exist own b w lt =
    let zero_is : w ≡ 0 = omega (arith, lt) in
    let all : map (λ (e : Entry). e.row) log ≡ rows = sym (written_alone log exist) ∙ (own ∙ rows_alone first rows) in
    subst (λ v. written_by v (take 4096 (drop (4096 * b) log)) ≡ rows_of 1 v (first + 4096 * b) (take 4096 (drop (4096 * b) rows))) (sym zero_is)
    (written_alone (take 4096 (drop (4096 * b) log))
    (all_front (λ e. e.writer < 1) 4096 (drop (4096 * b) log) (all_drop (λ e. e.writer < 1) (4096 * b) log exist))
    ∙ (sym (take-map (λ (e : Entry). e.row) 4096 (drop (4096 * b) log))
    ∙ (ap (take 4096) (sym (drop-map (λ (e : Entry). e.row) (4096 * b) log))
    ∙ (ap (λ (rs : List RowValue). take 4096 (drop (4096 * b) rs)) all ∙ sym (rows_alone (first + 4096 * b) (take 4096 (drop (4096 * b) rows)))))))

-- A log of some rows and then each writer's rows of some more are a log of all these rows. Those of several writers are all of one batch.
pub log_more : (first : ℕ) (rows batch : List RowValue) (writers : ℕ) (log new : List Entry) → 0 < writers → IsLogFrom first rows writers log
    → ((w : ℕ) → w < writers → written_by w log ≡ rows_of writers w first rows) → (1 < writers → length rows % 4096 + length batch ≤ 4096)
    → AllByRecursion (λ e. e.writer < writers) new
    → ((w : ℕ) → w < writers → written_by w new ≡ rows_of writers w (first + length rows) batch) → IsLogFrom first (rows ++ batch) writers (log ++ new)
log_more first rows batch writers log new some is all few exist more =
    let many : length new ≡ length batch = as_many writers (first + length rows) batch new some exist more in
    let exist_all : AllByRecursion (λ e. e.writer < writers) (log ++ new) = all_append (λ e. e.writer < writers) log new is.exist exist in record {
      size = length-append log new ∙ (ap₂ (λ i j. i + j) is.size many ∙ sym (length-append rows batch));
      exist = exist_all;
      own = elim (cases_lt 1 writers) [
        | inl several ↦
            let short = few several in
            own_more first rows batch writers (length rows / 4096) 4096 log new (λ c d lt. omega (arith, lt)) (omega arith) (omega (arith, short)) is.size many
            is.own more
        | inr alone ↦
            let one : writers ≡ 1 = omega (arith, some, alone) in
            subst (λ v. (b w : ℕ) → w < v
            → written_by w (take 4096 (drop (4096 * b) (log ++ new))) ≡ rows_of v w (first + 4096 * b) (take 4096 (drop (4096 * b) (rows ++ batch)))) (sym one)
            (own_alone first (rows ++ batch) (log ++ new) (subst (λ v. AllByRecursion (λ e. e.writer < v) (log ++ new)) one exist_all)
            (subst (λ v. written_by 0 (log ++ new) ≡ rows_of v 0 first (rows ++ batch)) one
            (written_append 0 log new ∙ (ap₂ (λ (xs ys : List RowValue). xs ++ ys) (all 0 some) (more 0 some) ∙ sym (rows_append writers 0 first rows batch)))))
      ];
    }
