-- Working forms of the proofs: what a step leaves of a ticket and of a writer's nodes, and what it needs.
use Rattle.std.specs.Prelude.{ℕ, ◌+◌, ◌*◌, ◌<◌, ◌≤◌, ◌≡◌, suc, List, [], ◌∷◌, ◌++◌, set, true, false, length, Some, slice_get}
use Rattle.cf_shape.specs.Places.{Slot, place, IsReal}
use Rattle.cf_law.specs.Words.{Spot, spot, Layout, Ticket, NodeStock, stock_of, node_at, IsNamedBy, has}
use Rattle.cf_law.specs.Law.{Skips, IsWhole}

-- book w gets the label v
unfoldable pub stocks_with_label : ℕ → ℕ → List NodeStock → List NodeStock
stocks_with_label w v bs = set bs w (record { used = (stock_of bs w).used; label = v; over = (stock_of bs w).over })

-- the least unused node of writer w is used for s
unfoldable pub stocks_with_node : ℕ → Spot → List NodeStock → List NodeStock
stocks_with_node w s bs = set bs w (record { used = (stock_of bs w).used ++ s ∷ []; label = 0; over = (stock_of bs w).over })

-- book w is marked over
unfoldable pub stocks_with_mark : ℕ → List NodeStock → List NodeStock
stocks_with_mark w bs = set bs w (record { used = (stock_of bs w).used; label = (stock_of bs w).label; over = true })

-- the ticket after its word i was stored
abbrev pub ticket_with_word : ℕ → Ticket → Ticket
ticket_with_word i t = record t { filled = suc i }

-- the ticket after it was linked in lane l
abbrev pub ticket_with_head : ℕ → Ticket → Ticket
ticket_with_head l t = record t { linked = l ∷ t.linked }

-- the ticket after it was finished
abbrev pub ticket_with_done : Ticket → Ticket
ticket_with_done t = record t { is_done = true }

-- word i is the next of ticket o
pub record CanFill (layout : Layout) (log : List Ticket) (o : ℕ) (ticket : Ticket) (i : ℕ) : Type 0 where
  pub at : slice_get log o ≡ Some ticket
  pub flies : ticket.is_done ≡ false
  pub from : ticket.filled ≤ i
  pub skipped : (k : ℕ) → ticket.filled ≤ k → k < i → Skips layout ticket (layout.use_of k)
  pub within : suc i < layout.sizes.ticket_words

-- ticket o, which is in flight, may be linked in lane l at the node n and nibble d
pub record CanHead (layout : Layout) (log : List Ticket) (stocks : List NodeStock) (o : ℕ) (ticket : Ticket) (l d : ℕ) (p : List ℕ) (n : ℕ) : Type 0 where
  pub at : slice_get log o ≡ Some ticket
  pub flies : ticket.is_done ≡ false
  pub ready : IsWhole layout ticket
  pub fresh : has ticket.linked l ≡ false
  pub leads : layout.path ticket.row l ≡ Some (d ∷ p)
  pub leaf : node_at layout.sizes.nodes stocks n ≡ Some (spot l p)
  pub writer : ticket.writer < layout.sizes.writers

-- the writer may link its free node as the spot s, whose slot is t
pub record CanLink (layout : Layout) (stocks : List NodeStock) (w : ℕ) (spot : Spot) (slot : Slot) : Type 0 where
  pub writer : w < length stocks
  pub room : length (stock_of stocks w).used < layout.sizes.nodes
  pub named : IsNamedBy layout.sizes.nodes stocks spot.lane spot.path slot
  pub real : IsReal layout.sizes slot
  pub lane : spot.lane < layout.sizes.lanes
  pub inner : length spot.path < layout.levels spot.lane
  pub label : (stock_of stocks w).label ≡ 32 * place layout.sizes slot + length spot.path
