-- The law of the words and the passes.
use Rattle.std.specs.Prelude.{ℕ, ◌+◌, ◌<◌, ◌≤◌, ◌≡◌, ◌==◌, ◌⊎◌, zero, suc, List, [], ◌∷◌, true, cond, length, Option, Some, None, slice_get}
use Rattle.cf_row.specs.declared.row.Entry.{Entry}
use Rattle.cf_shape.specs.Places.{place, word_total}
use Rattle.cf_shape.specs.Places.Slot.{cell}
use Rattle.cf_law.specs.Words.{Spot, Layout, entry, Ticket, NodeStock, stock_of, marked_books, node_at, has, Spells}
use Rattle.cf_shape.specs.Uses.Use.{version}
use Rattle.cf_law.specs.Law.{NodesLaw, LeavesLaw, FlightLaw, IsWhole}
use Rattle.cf_law.specs.Passes.{Own, Flight, Book, Cursor, Pass}
use Rattle.cf_law.specs.Steps.{Holds}

-- what the words stand for: the write tail and the read tail, one list of tickets in the order of their offsets, and what each writer has
-- beside them, by its number
pub record Base : Type 0 where
  pub words : List ℕ
  pub tails : ℕ × ℕ
  pub log : List Ticket
  pub stocks : List NodeStock

-- the cell of that lane is filled
abbrev pub IsFilledIn : Layout → Ticket → ℕ → Type 0
IsFilledIn layout t l = (k j : ℕ) → layout.use_of k ≡ version l j → suc k < layout.sizes.ticket_words → k < t.filled

-- what is so of the words and of what they stand for, whatever the passes know
pub record BaseLaw (layout : Layout) (base : Base) : Type 0 where
  pub size : length base.words ≡ word_total layout.sizes
  pub spells : Spells layout base.tails base.log base.stocks base.words
  pub nodes : NodesLaw layout base.stocks
  pub room : length base.log ≤ layout.sizes.tickets
  pub flight : FlightLaw base.log
  pub leaves : LeavesLaw layout base.log base.stocks
  -- a linked ticket is filled there
  pub full : (o l : ℕ) (t : Ticket) → slice_get base.log o ≡ Some t → has t.linked l ≡ true → IsFilledIn layout t l
  -- a finished ticket is linked in each lane that selects it
  pub linked : (o l : ℕ) (t : Ticket) (p : List ℕ) → slice_get base.log o ≡ Some t → t.is_done ≡ true → layout.path t.row l ≡ Some p → has t.linked l ≡ true
  -- a finished ticket is filled
  pub whole : (o : ℕ) (t : Ticket) → slice_get base.log o ≡ Some t → t.is_done ≡ true → IsWhole layout t
  pub marks : base.tails.0 ≡ length base.log + marked_books base.stocks
  pub ends : (w : ℕ) → (stock_of base.stocks w).over ≡ true → length base.log ≡ layout.sizes.tickets
  pub writers : (o : ℕ) (t : Ticket) → slice_get base.log o ≡ Some t → t.writer < layout.sizes.writers
  pub fits : (o : ℕ) (t : Ticket) → slice_get base.log o ≡ Some t → layout.fits t.row ≡ true
  pub covered : base.tails.1 ≤ length base.log
  pub done : (o : ℕ) (t : Ticket) → o < base.tails.1 → slice_get base.log o ≡ Some t → t.is_done ≡ true

-- the entries of the first n tickets of the log, or of all where there are fewer
unfoldable pub front : ℕ → List Ticket → List Entry
front zero log = []
front (suc n) [] = []
front (suc n) (t ∷ log) = entry t.writer t.row ∷ front n log

-- of these tickets, which begin at offset k, those that writer w has finished
unfoldable pub mine_in : ℕ → ℕ → List Ticket → List Own
mine_in w k [] = []
mine_in w k (t ∷ ts) =
    cond (t.writer == w) (cond t.is_done (record { offset = k; row = t.row } ∷ mine_in w (suc k) ts) (mine_in w (suc k) ts)) (mine_in w (suc k) ts)

-- of these tickets, which begin at offset k, the first that writer w has not finished, or None
unfoldable pub flight_in : ℕ → ℕ → List Ticket → Option Flight
flight_in w k [] = None
flight_in w k (t ∷ ts) =
    cond (t.writer == w) (cond t.is_done (flight_in w (suc k) ts) (Some record { offset = k; row = t.row; filled = t.filled; linked = t.linked }))
    (flight_in w (suc k) ts)

-- the book of writer w, as the tickets and its stock have it
abbrev pub book_at : Base → ℕ → Book
book_at m w = record {
  writer = w;
  mine = mine_in w 0 m.log;
  flight = flight_in w 0 m.log;
  over = (stock_of m.stocks w).over;
  used = (stock_of m.stocks w).used;
  label = (stock_of m.stocks w).label;
}

-- the node stands for the lane and prefix, and so each child word of these is the node's number plus 1 for good
abbrev pub Known : Layout → List NodeStock → Spot × ℕ → Type 0
Known layout bs x = node_at layout.sizes.nodes bs x.1 ≡ Some x.0

-- a walk's link names no ticket, as 0, or as an offset plus 1 a ticket of the cursor's writer in its leaf, whose cell there is filled
abbrev pub Leads : Layout → List Ticket → Cursor → ℕ → Type 0
Leads layout log c zero = Unit {0}
Leads layout log c (suc o) = (t : Ticket) × (slice_get log o ≡ Some t) × (t.writer ≡ c.writer) × (layout.path t.row c.spot.lane ≡ Some c.spot.path)
    × IsFilledIn layout t c.spot.lane

-- the ticket at that offset is that writer's
abbrev pub HasWriter : List Ticket → ℕ × ℕ → Type 0
HasWriter log x = (t : Ticket) × (slice_get log x.0 ≡ Some t) × (t.writer ≡ x.1)

-- what is so of a walk of a pass that has seen the first `seen` entries of the log
pub record CursorLaw (layout : Layout) (log : List Ticket) (seen : ℕ) (cursor : Cursor) : Type 0 where
  -- the link is 0, or names a ticket of that writer and leaf, whose cell there is filled
  pub leads : Leads layout log cursor cursor.link
  -- what was seen in the chain lies below the link, or the walk went by it
  pub left : (i : ℕ) (t : Ticket) → i < seen → slice_get log i ≡ Some t → t.writer ≡ cursor.writer
      → layout.path t.row cursor.spot.lane ≡ Some cursor.spot.path → (i < cursor.link) ⊎ (has cursor.gone i ≡ true)
  -- what the walks went by are tickets of these writers
  pub met : (i : ℕ) (x : ℕ × ℕ) → slice_get cursor.met i ≡ Some x → HasWriter log x

-- what is so of the walk of a pass that has seen the first `seen` entries; None is no walk, and asks nothing
abbrev pub CursorIs : Layout → List Ticket → ℕ → Option Cursor → Type 0
CursorIs layout log seen None = Unit {0}
CursorIs layout log seen (Some c) = CursorLaw layout log seen c

-- there is a ticket at offset o, and it is finished
abbrev pub DoneAt : List Ticket → ℕ → Type 0
DoneAt log o = (t : Ticket) × (slice_get log o ≡ Some t) × (t.is_done ≡ true)

-- what a pass knows and holds
pub record PassLaw (layout : Layout) (base : Base) (p : Pass) : Type 0 where
  pub within : length p.seen ≤ base.tails.1
  pub seen : p.seen ≡ front (length p.seen) base.log
  pub olds : (k : ℕ) (old : List Entry) → slice_get p.olds k ≡ Some old → (length old ≤ length p.seen) × (old ≡ front (length old) base.log)
  pub known : (i : ℕ) (x : Spot × ℕ) → slice_get p.known i ≡ Some x → Known layout base.stocks x
  pub walk : CursorIs layout base.log (length p.seen) p.cursor
  pub look : (o i : ℕ) → o < layout.sizes.tickets → suc i ≡ layout.sizes.ticket_words → p.look.word ≡ place layout.sizes (cell o i) → p.look.value ≡ 1
      → DoneAt base.log o
  pub books : (k : ℕ) (b : Book) → Holds p k b → (b.writer < layout.sizes.writers) × (b ≡ book_at base b.writer)
  -- a pass that was joined away holds no book
  pub ends : p.spent ≡ true → p.books ≡ []

-- a world: the words of one table by their places, and the passes over it by their numbers, those joined away too
pub record World : Type 0 where
  pub words : List ℕ
  pub passes : List Pass

-- pass k holds the book of writer w at place i
pub record HoldsAt (passes : List Pass) (k i w : ℕ) : Type 0 where
  pub pass : Pass
  pub book : Book
  pub at : slice_get passes k ≡ Some pass
  pub held : Holds pass i book
  pub writer : book.writer ≡ w

-- The base stands for the words, and each pass knows and holds what is so.
pub record Stands (layout : Layout) (base : Base) (passes : List Pass) : Type 0 where
  pub law : BaseLaw layout base
  pub knows : (k : ℕ) (p : Pass) → slice_get passes k ≡ Some p → PassLaw layout base p
  -- each book is held, and none twice
  pub held : (w : ℕ) → w < layout.sizes.writers → (k : ℕ) × (i : ℕ) × HoldsAt passes k i w
  pub once : (j k h i w : ℕ) → HoldsAt passes j h w → HoldsAt passes k i w → (j ≡ k) × (h ≡ i)

-- the law: these words stand for something lawful, and of that these passes know and hold what is so
pub record Lawful (layout : Layout) (words : List ℕ) (passes : List Pass) : Type 0 where
  pub base : Base
  pub stands : Stands layout base passes
  pub spelled : base.words ≡ words
