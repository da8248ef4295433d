-- The places of the words of a log's table: a slot says what a word is, and `place` says where it stands.
use Rattle.std.specs.Prelude.{ℕ, ◌+◌, ◌*◌, ◌<◌, ◌≡◌, Bool, true, false, suc, length}
use Rattle.cf_row.specs.Words.{word_count}
use Rattle.cf_shape.specs.Lanes.{ShapeValue, lane_at}
use Rattle.cf_shape.specs.Uses.{ticket_words, cells_before, cell_count, cell_words}

-- the sizes of a table: its tickets and the words of each, its lanes, its writers and the nodes of each
pub record Sizes : Type 0 where
  pub tickets : ℕ
  pub ticket_words : ℕ
  pub lanes : ℕ
  pub writers : ℕ
  pub nodes : ℕ

-- the words of a node: its label, and for each of 16 nibbles a head for each writer
abbrev pub node_words : Sizes → ℕ
node_words g = 1 + 16 * g.writers

-- 0 is the write tail and 1 the read tail; a ticket's word; a root's child; a node's word, of which 0 is its label
pub data Slot : Type 0 where
  tail : ℕ → Slot
  cell : ℕ → ℕ → Slot
  root : ℕ → ℕ → Slot
  body : ℕ → ℕ → Slot

-- the slot is one of a table of these sizes; tickets, lanes, nodes, and the words of each are numbered from 0
abbrev pub IsReal : Sizes → Slot → Type 0
IsReal g (tail k) = k < 2
IsReal g (cell o i) = (o < g.tickets) × (i < g.ticket_words)
IsReal g (root l d) = (l < g.lanes) × (d < 16)
IsReal g (body n j) = (n < g.writers * g.nodes) × (j < node_words g)

-- the place of the first root's first child, after the tails and the tickets
abbrev pub roots_at : Sizes → ℕ
roots_at g = 2 + g.tickets * g.ticket_words

-- the place of the first word of node 0, after the 16 children of each lane's root
abbrev pub nodes_at : Sizes → ℕ
nodes_at g = roots_at g + g.lanes * 16

-- the number of words
abbrev pub word_total : Sizes → ℕ
word_total g = nodes_at g + g.writers * g.nodes * node_words g

-- the place of a slot's word in a table of these sizes, from 0
unfoldable pub place : Sizes → Slot → ℕ
place g (tail k) = k
place g (cell o i) = 2 + (o * g.ticket_words + i)
place g (root l d) = roots_at g + (l * 16 + d)
place g (body n j) = nodes_at g + (n * node_words g + j)

-- the head of nibble d and writer w at node n
abbrev pub head_slot : Sizes → ℕ → ℕ → ℕ → Slot
head_slot g n d w = body n (suc (d * g.writers + w))

-- the sizes of the table of a log of this shape
abbrev pub sizes_of : ShapeValue → Sizes
sizes_of shape =
    record { tickets = shape.capacity; ticket_words = ticket_words shape; lanes = length shape.lanes; writers = shape.writers; nodes = shape.nodes }

-- the table of a log of this shape has its first root at one place, and node 0 at the other
abbrev pub StandsAt : ShapeValue → ℕ → ℕ → Type 0
StandsAt shape roots nodes = (roots ≡ roots_at (sizes_of shape)) × (nodes ≡ nodes_at (sizes_of shape))

-- The words by name. A node has children, or heads at the last level.
pub data WordName : Type 0 where
  write_tail : WordName
  read_tail : WordName
  word : ℕ → ℕ → WordName
  version : ℕ → ℕ → ℕ → WordName
  done : ℕ → WordName
  root_child : ℕ → ℕ → WordName
  label : ℕ → WordName
  child : ℕ → ℕ → WordName
  head : ℕ → ℕ → ℕ → WordName

-- the word exists, where `is_inner` says which nodes have children
abbrev pub Exists : ShapeValue → (ℕ → Bool) → WordName → Type 0
Exists shape is_inner write_tail = Unit {0}
Exists shape is_inner read_tail = Unit {0}
Exists shape is_inner (word offset i) = (offset < shape.capacity) × (i < word_count shape.schema + 1)
Exists shape is_inner (version offset lane i) = (offset < shape.capacity) × (lane < length shape.lanes) × (i < cell_words (lane_at shape lane))
Exists shape is_inner (done offset) = offset < shape.capacity
Exists shape is_inner (root_child lane d) = (lane < length shape.lanes) × (d < 16)
Exists shape is_inner (label node) = node < shape.writers * shape.nodes
Exists shape is_inner (child node d) = (node < shape.writers * shape.nodes) × (d < 16) × (is_inner node ≡ true)
Exists shape is_inner (head node d writer) = (node < shape.writers * shape.nodes) × (d < 16) × (writer < shape.writers) × (is_inner node ≡ false)

-- the slot of a word
abbrev pub slot_of : ShapeValue → WordName → Slot
slot_of shape write_tail = tail 0
slot_of shape read_tail = tail 1
slot_of shape (word offset i) = cell offset i
slot_of shape (version offset lane i) = cell offset (word_count shape.schema + 1 + cells_before shape lane + i)
slot_of shape (done offset) = cell offset (word_count shape.schema + 1 + cell_count shape.lanes)
slot_of shape (root_child lane d) = root lane d
slot_of shape (label node) = body node 0
slot_of shape (child node d) = body node (suc d)
slot_of shape (head node d writer) = head_slot (sizes_of shape) node d writer

-- the place of a word
abbrev pub place_of : ShapeValue → WordName → ℕ
place_of shape w = place (sizes_of shape) (slot_of shape w)
