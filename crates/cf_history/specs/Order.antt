-- The order in which the writers' rows came into the log.
use Rattle.std.specs.Prelude.{◌≡◌, ℕ, ◌+◌, ◌*◌, ◌%◌, ◌<◌, List, [], ◌∷◌, ◌++◌, length, take, drop, map, slice_get, ◌==◌, if◌then◌else◌}
use Rattle.std.specs.Option.{option_map}
use Rattle.std.specs.List.{filter, count_by, cons_option, range_with_len, AllByRecursion}
use Rattle.cf_row.specs.Row.{RowValue}
use Rattle.cf_row.specs.declared.row.Entry.{Entry}

-- batches are 4,096 consecutive items, the last may be shorter
abbrev pub batch : {X : Type 0} → ℕ → List X → List X
batch b xs = take 4096 (drop (4096 * b) xs)

-- An order of n rows: a list of n writers that has, in each batch, each writer as often as the writer has rows in that batch.
-- Row k is of writer k modulo the number of writers.
pub record IsOrder (order : List ℕ) (n writers : ℕ) : Type 0 where
  pub size : length order ≡ n
  pub exist : AllByRecursion (λ writer. writer < writers) order
  pub fair : (b writer : ℕ) → writer < writers →
      count_by (λ w. w == writer) (batch b order) ≡ count_by (λ k. k % writers == writer) (batch b (range_with_len 0 n))

-- each writer of the order, after those before it, takes its next row
abbrev pub log_after : List RowValue → ℕ → List ℕ → List ℕ → List Entry
log_after rows writers before [] = []
log_after rows writers before (writer ∷ order) =
    cons_option
    (option_map (λ row. record { writer = writer; row = row }) (slice_get rows (count_by (λ w. w == writer) before * writers + writer)))
    (log_after rows writers (before ++ writer ∷ []) order)

-- the log of an order
abbrev pub log_of : List RowValue → ℕ → List ℕ → List Entry
log_of rows writers order = log_after rows writers [] order

-- The rows of one writer, where the first is row number k.
abbrev pub rows_of : ℕ → ℕ → ℕ → List RowValue → List RowValue
rows_of writers writer k [] = []
rows_of writers writer k (row ∷ rows) = if k % writers == writer then row ∷ rows_of writers writer (k + 1) rows else rows_of writers writer (k + 1) rows

-- what one writer wrote among these entries
abbrev pub written_by : ℕ → List Entry → List RowValue
written_by writer entries = map (λ entry. entry.row) (filter (λ entry. entry.writer == writer) entries)

-- A log in which each row stands once: in each batch each writer's entries are its rows of that batch, in order.
pub record IsLogOf (rows : List RowValue) (writers : ℕ) (log : List Entry) : Type 0 where
  pub size : length log ≡ length rows
  pub exist : AllByRecursion (λ entry. entry.writer < writers) log
  pub own : (b writer : ℕ) → writer < writers → written_by writer (batch b log) ≡ rows_of writers writer (4096 * b) (batch b rows)

-- the writers of a log, in order
abbrev pub order_of : List Entry → List ℕ
order_of log = map (λ entry. entry.writer) log

-- the runs of an order, with one more writer at its front: the first run is longer by 1, or a run of length 1 comes before it
abbrev pub longer : ℕ → List (ℕ × ℕ) → List (ℕ × ℕ)
longer writer [] = (writer, 1) ∷ []
longer writer (run ∷ runs) = if writer == run.0 then (writer, run.1 + 1) ∷ runs else (writer, 1) ∷ run ∷ runs

-- the longest runs of one writer in an order, the first run first, each as the writer and the length
abbrev pub runs_of : List ℕ → List (ℕ × ℕ)
runs_of [] = []
runs_of (writer ∷ order) = longer writer (runs_of order)
