-- How the course of a stream goes with its records.
use Rattle.std.specs.Prelude.{◌≡◌, ◌⊎◌, ℕ, ◌<◌, ◌≤◌, List, ◌++◌, length, All}
use Rattle.cf_row.specs.Row.{RowValue}
use Rattle.cf_shape.specs.Lanes.{ShapeValue}
use Rattle.cf_window.specs.Laws.{IsMoment, IsSeen}
use Rattle.cf_window.specs.Rounds.{Course}
use Rattle.cf_window.specs.Windows.{rows_in_all, window}

-- After these records the stream is there: the window is theirs, with those dropped before it, its rounds were on windows, and each
-- record is in the window or was in that of a round.
pub record IsCourse (shape : ShapeValue) (most : ℕ) (rows : List RowValue) (course : Course) : Type 0 where
  pub count : course.count ≡ length rows
  pub segments : course.segments ≡ window shape most rows
  pub front : List RowValue
  pub ends : rows ≡ front ++ rows_in_all course.segments
  pub rounds : All (IsMoment shape most rows) course.rounds
  pub seen : (number : ℕ) → number < length rows → (length front ≤ number) ⊎ IsSeen course.rounds number
