-- The law of nodes, and what a label and a link ask.
use Rattle.std.specs.Prelude.{ℕ, ◌+◌, ◌*◌, ◌^◌, ◌<◌, ◌≤◌, ◌≡◌, suc, List, ◌∷◌, true, length, Some, None, slice_get}
use Rattle.cf_row.specs.Row.{RowValue}
use Rattle.cf_shape.specs.Uses.{Use}
use Rattle.cf_law.specs.Words.{entry, Spot, spot, Layout, Ticket, NodeStock, stock_of, node_at, has}
use Rattle.cf_shape.specs.Uses.Use.{plain, version}

-- what is so of the used nodes of all writers: each stands below another used node or a root, and for a spot of its own
pub record NodesLaw (layout : Layout) (stocks : List NodeStock) : Type 0 where
  pub writers : length stocks ≡ layout.sizes.writers
  pub room : (w : ℕ) → length (stock_of stocks w).used ≤ layout.sizes.nodes
  -- each lane and prefix is that of one used node at most
  pub unique : (n k : ℕ) (s : Spot) → node_at layout.sizes.nodes stocks n ≡ Some s → node_at layout.sizes.nodes stocks k ≡ Some s → n ≡ k
  pub shaped : (n : ℕ) (s : Spot) → node_at layout.sizes.nodes stocks n ≡ Some s → (s.lane < layout.sizes.lanes) × (0 < length s.path)
      × (length s.path < layout.levels s.lane)
  -- the node above a used one is used
  pub parent : (n l d e : ℕ) (p : List ℕ) → node_at layout.sizes.nodes stocks n ≡ Some (spot l (d ∷ (e ∷ p))) → (k : ℕ)
      × (node_at layout.sizes.nodes stocks k ≡ Some (spot l (e ∷ p)))

-- in lane l the ticket has its leaf: a used node stands for all its path but the last nibble, and so by `parent` for each shorter part
abbrev pub HasLeaf : Layout → List NodeStock → Ticket → ℕ → Type 0
HasLeaf layout bs t l = (d : ℕ) × (p : List ℕ) × (k : ℕ) × (layout.path t.row l ≡ Some (d ∷ p)) × (node_at layout.sizes.nodes bs k ≡ Some (spot l p))

-- each ticket, by its offset in the log, has its leaf in every lane in which it is linked
abbrev pub LeavesLaw : Layout → List Ticket → List NodeStock → Type 0
LeavesLaw layout log bs = (o : ℕ) (t : Ticket) (l : ℕ) → slice_get log o ≡ Some t → has t.linked l ≡ true → HasLeaf layout bs t l

-- the shape's own laws: a path has as many nibbles as its lane has levels
pub record LayoutLaw (layout : Layout) : Type 0 where
  pub long : (r : RowValue) (l : ℕ) (p : List ℕ) → layout.path r l ≡ Some p → length p ≡ layout.levels l
  pub nibble : (r : RowValue) (l d : ℕ) (p : List ℕ) → layout.path r l ≡ Some (d ∷ p) → d < 16
  pub lanes : (r : RowValue) (l : ℕ) (p : List ℕ) → layout.path r l ≡ Some p → l < layout.sizes.lanes
  pub some_words : 0 < layout.sizes.ticket_words
  -- the words of the entry stand first, and spell it
  pub plains : (i : ℕ) → i < layout.plain_words → (suc i < layout.sizes.ticket_words) × (layout.use_of i ≡ plain i)
  pub spelled : (r : RowValue) (w : ℕ) → layout.fits r ≡ true → length (layout.spelled r w) ≡ layout.plain_words
  pub reads : (r : RowValue) (w : ℕ) → layout.fits r ≡ true → w < layout.sizes.writers → layout.reads (layout.spelled r w) ≡ entry w r
  -- each lane has the first word of its cell, and no word of a cell stands twice
  pub cells : (l : ℕ) → l < layout.sizes.lanes → (k : ℕ) × (suc k < layout.sizes.ticket_words) × (layout.use_of k ≡ version l 0)
  pub once : (i k l j : ℕ) → suc i < layout.sizes.ticket_words → suc k < layout.sizes.ticket_words → layout.use_of i ≡ version l j
      → layout.use_of k ≡ version l j → i ≡ k
  -- an offset plus 1 fits 32 bits
  pub few_tickets : layout.sizes.tickets < 2 ^ 32

-- only a writer's last ticket may be in flight
abbrev pub FlightLaw : List Ticket → Type 0
FlightLaw log = (o i : ℕ) (t u : Ticket) → slice_get log o ≡ Some t → slice_get log i ≡ Some u → t.writer ≡ u.writer → o < i → t.is_done ≡ true

-- word i of ticket o is passed over: its lane does not select the row
abbrev pub Skips : Layout → Ticket → Use → Type 0
Skips layout t (plain i) = ⊥
Skips layout t (version l j) = layout.path t.row l ≡ None

-- every word of the ticket but the done word is filled, or passed over
abbrev pub IsWhole : Layout → Ticket → Type 0
IsWhole layout t = (k : ℕ) → t.filled ≤ k → suc k < layout.sizes.ticket_words → Skips layout t (layout.use_of k)
