-- Laws of windows and of rounds.
use Rattle.std.specs.Prelude.{◌≡◌, ℕ, Bool, ◌<◌, ◌≤◌, List, length, take, fold, All, Some, slice_get}
use Rattle.cf_row.specs.Row.{RowValue}
use Rattle.cf_shape.specs.Lanes.{ShapeValue}
use Rattle.cf_window.specs.Rounds.{Span, rounds_of, start, was_read, within}
use Rattle.cf_window.specs.Windows.{rows_in_all, window}

-- The span is that of the window at a moment of the stream: so many records had come, and its records are those of the window then.
pub record IsMoment (shape : ShapeValue) (most : ℕ) (rows : List RowValue) (span : Span) : Type 0 where
  pub come : span.to ≤ length rows
  pub held : within rows span ≡ rows_in_all (window shape most (take span.to rows))

-- Each round is on the window at a moment, whatever rounds are forced.
abbrev pub RoundsAreOnWindows : Type 0
RoundsAreOnWindows =
    (shape : ShapeValue) (most : ℕ) (forced : ℕ → Bool) (reads : List (List RowValue))
    → All (IsMoment shape most (rows_in_all reads)) (rounds_of shape most forced reads)

-- the record of that number is in one of the spans
pub record IsSeen (spans : List Span) (number : ℕ) : Type 0 where
  pub round : ℕ
  pub span : Span
  pub at : slice_get spans round ≡ Some span
  pub from : span.from ≤ number
  pub to : number < span.to

-- No record goes unseen: each is in the window of a round, however reads cut the stream.
abbrev pub NoneGoesUnseen : Type 0
NoneGoesUnseen =
    (shape : ShapeValue) (most : ℕ) (forced : ℕ → Bool) (reads : List (List RowValue)) (number : ℕ) → number < length (rows_in_all reads)
    → IsSeen (rounds_of shape most forced reads) number

-- The window is that of the records, however reads cut the stream.
abbrev pub WindowsAreOfRecords : Type 0
WindowsAreOfRecords =
    (shape : ShapeValue) (most : ℕ) (forced : ℕ → Bool) (reads : List (List RowValue))
    → (fold (was_read shape most forced) start reads).segments ≡ window shape most (rows_in_all reads)

-- It never has more segments than there may be.
abbrev pub WindowsAreFew : Type 0
WindowsAreFew = (shape : ShapeValue) (most : ℕ) (rows : List RowValue) → 0 < most → length (window shape most rows) ≤ most
