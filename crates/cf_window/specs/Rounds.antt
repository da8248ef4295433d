-- The rounds of a stream: on which records each was made.
use Rattle.std.specs.Prelude.{ℕ, ◌+◌, ◌-◌, Bool, ◌||◌, nat_lt, List, [], ◌∷◌, ◌++◌, length, take, drop, fold, if◌then◌else◌}
use Rattle.cf_row.specs.Row.{RowValue}
use Rattle.cf_shape.specs.Lanes.{ShapeValue}
use Rattle.cf_window.specs.Windows.{drops, after_row, rows_in_all}

-- The records of a window by their numbers: the first one, and the one behind the last.
pub record Span : Type 0 where
  pub from : ℕ
  pub to : ℕ

-- the stream's records of that span
abbrev pub within : List RowValue → Span → List RowValue
within rows span = drop span.from (take span.to rows)

-- How far a stream has come: its window, the number of its records, and the spans of its rounds.
pub record Course : Type 0 where
  pub segments : List (List RowValue)
  pub count : ℕ
  pub rounds : List Span

abbrev pub start : Course
start = record { segments = []; count = 0; rounds = [] }

abbrev pub span_of : Course → Span
span_of course = record { from = course.count - length (rows_in_all course.segments); to = course.count }

abbrev pub with_round : Course → Course
with_round course = record course { rounds = course.rounds ++ span_of course ∷ [] }

-- a record comes: if a round is forced before it, or a segment has to be dropped for it, a round comes first
abbrev pub came : ShapeValue → ℕ → Bool → Course → RowValue → Course
came shape most is_forced course row = record {
  segments = after_row shape most course.segments row;
  count = course.count + 1;
  rounds = (if is_forced || drops shape most course.segments row then with_round course else course).rounds;
}

-- the same where rounds are forced before the records of some numbers
abbrev pub came_by : ShapeValue → ℕ → (ℕ → Bool) → Course → RowValue → Course
came_by shape most forced course row = came shape most (forced course.count) course row

-- a read that ended these records: where there is one, a round comes after the last
abbrev pub was_read : ShapeValue → ℕ → (ℕ → Bool) → Course → List RowValue → Course
was_read shape most forced course rows = if nat_lt 0 (length rows) then with_round (fold (came_by shape most forced) course rows) else course

-- how far a stream has come after these reads, each of which ended such records
abbrev pub after_reads : ShapeValue → ℕ → (ℕ → Bool) → List (List RowValue) → Course
after_reads shape most forced reads = fold (was_read shape most forced) start reads

-- the spans of all rounds, the last being that of the end
abbrev pub rounds_of : ShapeValue → ℕ → (ℕ → Bool) → List (List RowValue) → List Span
rounds_of shape most forced reads = (with_round (after_reads shape most forced reads)).rounds
