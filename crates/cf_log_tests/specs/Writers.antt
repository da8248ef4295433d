-- The writers' passes of a log, as the tests hand them about.
use Rattle.std.specs.Prelude.{ℕ, ◌≡◌, List, [], length, Some, slice_get}
use Rattle.cf_shape.specs.Lanes.{ShapeValue}
use Rattle.cf_table.specs.Values.{PassValue, LogValue, IsOf, book_of}
use Rattle.cf_append.specs.Appends.{Rests}

-- the pass is at rest, and its book is that writer's
pub record IsWriters (log : LogValue) (writer : ℕ) (h : PassValue) : Type 0 where
  pub of : IsOf h log
  pub rest : Rests h.view
  pub writer_is : (book_of h.view).writer ≡ writer

-- all books of a new log of the shape were dealt, each writer's in its place
pub record AreDealtOut (shape : ShapeValue) (log : LogValue) (root : PassValue) (passes : List PassValue) : Type 0 where
  pub opened : log.shape ≡ shape
  pub writers : (log.shape).writers ≡ shape.writers
  pub of : IsOf root log
  pub away : (root.view).books ≡ []
  pub count : length passes ≡ shape.writers
  pub each : (k : ℕ) (h : PassValue) → slice_get passes k ≡ Some h → IsWriters log k h
