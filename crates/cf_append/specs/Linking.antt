-- What filling and linking a record does to its ticket.
use Rattle.std.specs.Prelude.{ℕ, ◌+◌, ◌-◌, ◌*◌, ◌/◌, ◌%◌, ◌<◌, ◌≤◌, ◌≡◌, zero, suc, List, [], ◌∷◌, length, map, take, Some, slice_get, true, cond}
use Rattle.cf_row.specs.Row.{RowValue}
use Rattle.cf_row.specs.Words.{word_count}
use Rattle.cf_shape.specs.Lanes.{ShapeValue, selected_by, key_of, measure_of}
use Rattle.cf_shape.specs.Nodes.{levels_of}
use Rattle.cf_shape.specs.Uses.{cells_before, ticket_words, use_at}
use Rattle.cf_law.specs.Words.{Spot, spot, Layout, fresh_ticket, version_word}
use Rattle.cf_law.specs.Law.{Skips}
use Rattle.cf_law.specs.Nibbles.{nibbles}
use Rattle.cf_law.specs.Passes.{Own, Book}
use Rattle.cf_law.specs.Steps.{mine_chain}
use Rattle.cf_law.specs.Shapes.{layout}
use Rattle.cf_table.specs.Values.{PassValue, book_of}

-- the book with the row's ticket at offset o in flight, with so many words filled, and linked in these lanes
abbrev pub with_flight : ℕ → RowValue → ℕ → List ℕ → Book → Book
with_flight o row filled linked b = record b { flight = Some record { offset = o; row = row; filled = filled; linked = linked } }

-- word k is of a cell of a lane that doesn't select the row
abbrev pub IsPassedOver : ShapeValue → RowValue → ℕ → Type 0
IsPassedOver shape row k = Skips (layout shape) (fresh_ticket 0 row) (use_at shape k)

-- the newest record in the leaf stands at a place of the own ones, and those before it make the rest of the chain
pub record IsNewest (sh : Layout) (spot : Spot) (mine : List Own) (o : ℕ) : Type 0 where
  pub place : ℕ
  pub own : Own
  pub at : slice_get mine place ≡ Some own
  pub offset : own.offset ≡ o
  pub leads : sh.path own.row spot.lane ≡ Some spot.path
  pub chain : mine_chain sh spot mine ≡ (own.offset, own.row) ∷ mine_chain sh spot (take place mine)

-- what the lane measures of the records of a chain
abbrev pub amounts_in_chain : ShapeValue → ℕ → List (ℕ × RowValue) → List ℕ
amounts_in_chain shape lane c = map (λ (r : RowValue). measure_of shape lane r) (map (λ (x : ℕ × RowValue). x.1) c)

-- the words of a measured cell of the row, after this chain
pub record IsCell (shape : ShapeValue) (lane : ℕ) (c : List (ℕ × RowValue)) (row : RowValue) (first sum ends : ℕ) : Type 0 where
  pub first_is : first ≡ version_word (layout shape) lane 0 c row
  pub sum_is : sum ≡ version_word (layout shape) lane 1 c row
  pub ends_is : ends ≡ version_word (layout shape) lane 2 c row

-- the path of a key in a lane: its nibbles, the last one first
abbrev pub key_path : ShapeValue → ℕ → ℕ → List ℕ
key_path shape lane key = key % 16 ∷ nibbles (levels_of shape lane - 1) (key / 16)

-- a writer's finished records that the lane files in that leaf, newest first
abbrev pub leaf_chain : ShapeValue → ℕ → ℕ → Book → List (ℕ × RowValue)
leaf_chain shape lane key b = mine_chain (layout shape) (spot lane (key_path shape lane key)) b.mine

-- those in the leaf of the row
abbrev pub row_chain : ShapeValue → ℕ → RowValue → Book → List (ℕ × RowValue)
row_chain shape lane row b = leaf_chain shape lane (key_of shape lane row) b

-- the book is one of the log's: its writer, and what it has finished
pub record IsBookOf (shape : ShapeValue) (book : Book) : Type 0 where
  pub writer : book.writer < shape.writers
  pub rows : (j : ℕ) (x : Own) → slice_get book.mine j ≡ Some x → ((layout shape).fits x.row ≡ true) × (x.offset < shape.capacity)
  pub few : length book.mine ≤ shape.capacity

-- the first word of a lane's cell in a ticket
abbrev pub cell_from : ShapeValue → ℕ → ℕ
cell_from shape lane = word_count shape.schema + 1 + cells_before shape lane

-- The book of m has the row's ticket at offset o in flight, whose words before this one are filled or passed over, and
-- which isn't linked yet.
pub record HasFilled (shape : ShapeValue) (o : ℕ) (row : RowValue) (upto : ℕ) (before after : PassValue) : Type 0 where
  pub filled : ℕ
  pub books : (after.view).books ≡ with_flight o row filled [] (book_of before.view) ∷ []
  pub from : filled ≤ upto
  pub passed : (k : ℕ) → filled ≤ k → k < upto → IsPassedOver shape row k

-- those of the first n lanes that select the row, the last first
unfoldable pub linked_to : ShapeValue → RowValue → ℕ → List ℕ
linked_to shape row zero = []
linked_to shape row (suc lane) = cond (selected_by shape lane row) (lane ∷ linked_to shape row lane) (linked_to shape row lane)

-- The book of m has the row's ticket at offset o in flight, which is filled, and linked in each of the first k lanes that
-- selects the row.
pub record HasLinked (shape : ShapeValue) (o : ℕ) (row : RowValue) (k : ℕ) (before after : PassValue) : Type 0 where
  pub filled : ℕ
  pub books : (after.view).books ≡ with_flight o row filled (linked_to shape row k) (book_of before.view) ∷ []
  pub whole : (i : ℕ) → filled ≤ i → suc i < ticket_words shape → IsPassedOver shape row i

-- what the first n lanes add to the steps of an append at most
unfoldable pub lane_steps : ShapeValue → ℕ → ℕ
lane_steps shape zero = 0
lane_steps shape (suc lane) = lane_steps shape lane + (3 * levels_of shape lane + 5)
