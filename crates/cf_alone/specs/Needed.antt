-- Which nodes the rows of a log need.
use Rattle.std.specs.Prelude.{ℕ, ◌≡◌, ◌≤◌, List, ◌∷◌, ◌++◌, length, Some, slice_get}
use Rattle.cf_row.specs.Row.{RowValue}
use Rattle.cf_plain.specs.Order.{rows_of, written_by}
use Rattle.cf_shape.specs.Lanes.{ShapeValue}
use Rattle.cf_law.specs.Words.{Spot}
use Rattle.cf_law.specs.Passes.{Book, Pass}
use Rattle.cf_law.specs.Steps.{Holds}
use Rattle.cf_table.specs.Moves.{HasPaths}
use Rattle.cf_append.specs.Paths.{IsOnPath}

-- the path of one of these rows goes through the spot
pub record IsNeeded (shape : ShapeValue) (rows : List RowValue) (spot : Spot) : Type 0 where
  pub place : ℕ
  pub row : RowValue
  pub at : slice_get rows place ≡ Some row
  pub on : IsOnPath shape row spot

-- all of the book's nodes are used, for different spots, and one more is needed
pub record IsOut (shape : ShapeValue) (rows : List RowValue) (book : Book) : Type 0 where
  pub full : length book.used ≡ shape.nodes
  pub apart : (i j : ℕ) (s : Spot) → slice_get book.used i ≡ Some s → slice_get book.used j ≡ Some s → i ≡ j
  pub at : Spot
  pub needed : IsNeeded shape rows at
  pub other : (j : ℕ) → slice_get book.used j ≡ Some at → ⊥

-- The pass holds that writer's book, all of its nodes are used, and the next of the writer's own rows wants one more. The first of
-- the rows is number `first`.
pub record HasRunOut (shape : ShapeValue) (first : ℕ) (rows : List RowValue) (writer : ℕ) (pass : Pass) : Type 0 where
  pub place : ℕ
  pub book : Book
  pub held : Holds pass place book
  pub writer_is : book.writer ≡ writer
  pub out : IsOut shape rows book
  pub next : RowValue
  pub left : List RowValue
  pub split : written_by writer pass.seen ++ next ∷ left ≡ rows_of shape.writers writer first rows
  pub wants : IsOnPath shape next out.at

-- Each used node of the held books is needed by these rows, no book has used more than its own, and the paths of all that was
-- seen are whole.
pub record HasNodes (shape : ShapeValue) (rows : List RowValue) (pass : Pass) : Type 0 where
  pub needed : (k j : ℕ) (b : Book) (s : Spot) → Holds pass k b → slice_get b.used j ≡ Some s → IsNeeded shape rows s
  pub room : (k : ℕ) (b : Book) → Holds pass k b → length b.used ≤ shape.nodes
  pub paths : HasPaths shape pass
