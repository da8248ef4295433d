-- What contracts see of a log and of a pass.
use Rattle.std.specs.Prelude.{ℕ, ◌≡◌, Option, Some, None, List, [], ◌∷◌, get_or, length, Bool}
use Rattle.atomic_table.specs.Seated.{TableId}
use Rattle.cf_shape.specs.Lanes.{ShapeValue}
use Rattle.cf_law.specs.Passes.{Book, Flight, Pass}
use Rattle.cf_law.specs.Events.{no_book}

-- the table, the pass's number in it, how many nodes each writer has, and what the pass holds and knows
pub record PassValue : Type 0 where
  pub table : TableId
  pub id : ℕ
  pub nodes : ℕ
  pub view : Pass

-- the shape and the table
pub record LogValue : Type 0 where
  pub shape : ShapeValue
  pub table : TableId

-- the pass is one of the log's
pub record IsOf (pass : PassValue) (log : LogValue) : Type 0 where
  pub table : pass.table ≡ log.table
  pub nodes : pass.nodes ≡ log.shape.nodes

-- the first book, which is a writer's pass's only one
abbrev pub book_of : Pass → Book
book_of p = get_or p.books 0 (no_book 0)

-- a ticket in flight at offset 0 with an empty row, for where there is none
abbrev pub no_flight : Flight
no_flight = record { offset = 0; row = record { num = 0; values = [] }; filled = 0; linked = [] }

-- the ticket in flight, or a made-up one at offset 0 where there is none
abbrev pub flight_or : Option Flight → Flight
flight_or None = no_flight
flight_or (Some f) = f

-- the ticket in flight of the pass's first book, or a made-up one at offset 0 where there is none
abbrev pub flight_of : Pass → Flight
flight_of p = flight_or (book_of p).flight

-- there is the one book of that writer, marked or not, with as many used nodes
pub record Writes (writer : ℕ) (over : Bool) (used : ℕ) (books : List Book) : Type 0 where
  pub book : Book
  pub one : books ≡ book ∷ []
  pub writer_is : book.writer ≡ writer
  pub over_is : book.over ≡ over
  pub used_is : length book.used ≡ used
