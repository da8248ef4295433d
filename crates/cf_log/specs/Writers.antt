-- What the writers of a log append, from its opening until all their passes are home.
use Rattle.std.specs.Prelude.{◌≡◌, ◌<◌, ℕ, List, [], ◌∷◌, ◌++◌, length, map, Some, slice_get, Result, Ok, Err}
use Rattle.std.specs.List.{AllByRecursion}
use Rattle.cf_row.specs.Row.{RowValue}
use Rattle.cf_shape.specs.Lanes.{ShapeValue}
use Rattle.cf_plain.specs.Order.{written_by}
use Rattle.cf_table.specs.Values.{PassValue, LogValue, IsOf, book_of}
use Rattle.cf_table.specs.Moves.{HasGathered}
use Rattle.cf_append.specs.Appends.{PassGoesOn, Rests, HasAppended}
use Rattle.cf_append.specs.declared.appends.AppendFault.{AppendFault}
use Rattle.cf_log.specs.declared.passes.Opened.{Opened}

-- the rows that a writer's pass has appended, in order
abbrev pub rows_by : PassValue → List RowValue
rows_by pass = map (λ own. own.row) (book_of pass.view).mine

-- the pass is that writer's, with no record half appended
pub record IsWriter (log : LogValue) (writer : ℕ) (pass : PassValue) : Type 0 where
  pub of : IsOf pass log
  pub rest : Rests pass.view
  pub writer_is : (book_of pass.view).writer ≡ writer

-- pass k is writer k's, and each writer has one
pub record AreWriters (log : LogValue) (passes : List PassValue) : Type 0 where
  pub count : length passes ≡ (log.shape).writers
  pub each : (k : ℕ) (pass : PassValue) → slice_get passes k ≡ Some pass → IsWriter log k pass

-- a log of that shape, to which nothing was appended, with a pass for each writer
pub record IsOpened (shape : ShapeValue) (opened : Opened) : Type 0 where
  pub shape_is : opened.log.shape ≡ shape
  pub of : IsOf opened.root opened.log
  pub away : (opened.root.view).books ≡ []
  pub nothing : (opened.root.view).seen ≡ []
  pub writers : AreWriters opened.log opened.writers.items
  pub none : (k : ℕ) (pass : PassValue) → slice_get opened.writers.items k ≡ Some pass → rows_by pass ≡ []

-- why not all rows were appended: the first of those that are left was refused, as the last thing that the pass did
abbrev pub RefusesNext : ShapeValue → List RowValue → PassValue → Result Unit AppendFault → Type 0
RefusesNext shape left n (Ok done) = left ≡ []
RefusesNext shape left n (Err fault) = (k : PassValue) × (row : RowValue) × (rest : List RowValue) × (left ≡ row ∷ rest) × HasAppended shape row k n (Err fault)

-- The pass appended the first of the rows, in order: all of them, unless one was refused.
pub record AppendsRows (log : LogValue) (rows : List RowValue) (before after : PassValue) (result : Result Unit AppendFault) : Type 0 where
  pub goes_on : PassGoesOn before after
  pub rest : Rests after.view
  pub writer : (book_of after.view).writer ≡ (book_of before.view).writer
  pub done : List RowValue
  pub left : List RowValue
  pub split : done ++ left ≡ rows
  pub rows_are : rows_by after ≡ rows_by before ++ done
  pub refused : RefusesNext log.shape left after result

-- All writers' passes came home: the log has the rows of each writer, in order, and no others.
pub record HasJoined (log : LogValue) (before : PassValue) (writers : List PassValue) (after : PassValue) : Type 0 where
  pub gathered : HasGathered log.shape before writers after
  pub of : IsOf after log
  pub rows : (k : ℕ) (pass : PassValue) → slice_get writers k ≡ Some pass → written_by k (after.view).seen ≡ rows_by pass
  pub exist : AllByRecursion (λ entry. entry.writer < (log.shape).writers) (after.view).seen
