-- What the writers of a batch append.
use Rattle.std.specs.Prelude.{ℕ, ◌≡◌, ◌⊎◌, Bool, List, [], ◌∷◌, ◌++◌, true, map, Some, slice_get}
use Rattle.cf_row.specs.Row.{RowValue}
use Rattle.cf_law.specs.Words.{Spot}
use Rattle.cf_law.specs.Passes.{Book}
use Rattle.cf_table.specs.Values.{PassValue, LogValue, book_of}
use Rattle.cf_table.specs.Moves.{Begins}
use Rattle.cf_append.specs.Appends.{Rests}
use Rattle.cf_append.specs.Paths.{IsOnPath}
use Rattle.cf_plain.specs.Order.{rows_of}
use Rattle.cf_segments.specs.Needed.{IsNeeded, IsOut}

-- the rows of a book's finished tickets, in order
abbrev pub rows_of_book : Book → List RowValue
rows_of_book b = map (λ own. own.row) b.mine

-- A writer's pass has appended the first of its rows of a batch whose first row is number `first`, and where the batch is whole all of
-- them, or its book is marked. The nodes that it used are needed by rows of the batch.
pub record HasWritten (whole : Bool) (log : LogValue) (first : ℕ) (batch : List RowValue) (before after : PassValue) : Type 0 where
  pub same : after ≡ record before { view = after.view }
  pub rest : Rests after.view
  pub writer : (book_of after.view).writer ≡ (book_of before.view).writer
  pub done : List RowValue
  pub left : List RowValue
  pub split : done ++ left ≡ rows_of (log.shape).writers (book_of before.view).writer first batch
  pub rows : rows_of_book (book_of after.view) ≡ rows_of_book (book_of before.view) ++ done
  pub all : whole ≡ true → (left ≡ []) ⊎ ((book_of after.view).over ≡ true)
  pub used : (j : ℕ) (s : Spot) → slice_get (book_of after.view).used j ≡ Some s → ((i : ℕ) × (slice_get (book_of before.view).used i ≡ Some s))
      ⊎ IsNeeded log.shape batch s
  pub longer : Begins (before.view).seen (after.view).seen
  pub tails : (after.view).tails ≡ (before.view).tails
  pub told : (after.view).told ≡ (before.view).told

-- The pass is that writer's, which ran out of nodes: all of its book's are used, and the next of its rows of a batch whose first row
-- is number `first` wants one more.
pub record RunsOut (log : LogValue) (first : ℕ) (batch : List RowValue) (writer : ℕ) (before after : PassValue) : Type 0 where
  pub was : (book_of before.view).writer ≡ writer
  pub writer_is : (book_of after.view).writer ≡ writer
  pub out : IsOut log.shape batch (book_of after.view)
  pub done : List RowValue
  pub next : RowValue
  pub left : List RowValue
  pub split : done ++ next ∷ left ≡ rows_of (log.shape).writers writer first batch
  pub rows : rows_of_book (book_of after.view) ≡ rows_of_book (book_of before.view) ++ done
  pub wants : IsOnPath log.shape next out.at

-- one of the passes, of that writer, ran out of nodes
pub record RanOut (log : LogValue) (first : ℕ) (batch : List RowValue) (writer : ℕ) (before after : List PassValue) : Type 0 where
  pub from : ℕ
  pub old : PassValue
  pub was_at : slice_get before from ≡ Some old
  pub place : ℕ
  pub pass : PassValue
  pub at : slice_get after place ≡ Some pass
  pub runs : RunsOut log first batch writer old pass
