-- What the words mean.
use Rattle.std.specs.Prelude.{ℕ, ◌+◌, ◌*◌, ◌/◌, ◌%◌, ◌<◌, ◌≤◌, ◌≡◌, ◌==◌, ◌⊎◌, suc, zero, List, [], ◌∷◌, ◌++◌, nat_lt, Bool, true, false, cond, length, get_or, Option, Some, None, slice_get, map}
use Rattle.cf_row.specs.Row.{RowValue}
use Rattle.cf_shape.specs.Places.{Sizes, Slot, place, IsReal}
use Rattle.cf_fold.specs.Quads.{quad_of}
use Rattle.cf_fold.specs.Cells.{halves, measure_word}
use Rattle.cf_row.specs.declared.row.Entry.{Entry}
use Rattle.cf_shape.specs.Uses.{Use}
use Rattle.cf_shape.specs.Uses.Use.{plain, version}
use Rattle.cf_shape.specs.Places.Slot.{tail, cell, root, body}

-- a lane's path: the nibbles that lead to it, the last first, so that a child's path is its nibble before its parent's
pub record Spot : Type 0 where
  pub lane : ℕ
  pub path : List ℕ

-- the spot of lane l and path p, whose last nibble stands first
abbrev pub spot : ℕ → List ℕ → Spot
spot l p = record { lane = l; path = p }

-- the entry of a writer and a row
abbrev pub entry : ℕ → RowValue → Entry
entry w r = record { writer = w; row = r }

-- what a shape says of rows and words. `path` is None where the lane does not select the row.
-- `spelled` has the words of a row and its writer, attributes and tag, and `reads` is its inverse
pub record Layout : Type 0 where
  pub sizes : Sizes
  pub levels : ℕ → ℕ
  pub path : RowValue → ℕ → Option (List ℕ)
  pub fits : RowValue → Bool
  pub plain_words : ℕ
  pub spelled : RowValue → ℕ → List ℕ
  pub reads : List ℕ → Entry
  pub use_of : ℕ → Use
  pub amount : RowValue → ℕ → ℕ
  pub is_measured : ℕ → Bool

-- a ticket: its writer's number, its row, below which number its words are filled or passed over, the lanes in which it is linked, and
-- whether it is finished
pub record Ticket : Type 0 where
  pub writer : ℕ
  pub row : RowValue
  pub filled : ℕ
  pub linked : List ℕ
  pub is_done : Bool

-- what a writer has beside its tickets: its used nodes in order, the label that it last stored, or 0, and its mark
pub record NodeStock : Type 0 where
  pub used : List Spot
  pub label : ℕ
  pub over : Bool

-- the stock of writer w, or an empty one where there is no such writer
unfoldable pub stock_of : List NodeStock → ℕ → NodeStock
stock_of bs w = get_or bs w (record { used = []; label = 0; over = false })

-- the spot that node n stands for, or None where it is not used; m is the number of nodes of each writer
unfoldable pub node_at : ℕ → List NodeStock → ℕ → Option Spot
node_at m bs n = slice_get (stock_of bs (n / m)).used (n % m)

-- the label of a node n that isn't used: the one that its writer last stored where n is that writer's least unused node, else 0
unfoldable pub spare_label : ℕ → List NodeStock → ℕ → ℕ
spare_label m bs n = cond (n % m == length (stock_of bs (n / m)).used) (stock_of bs (n / m)).label 0

-- a child word that stands for the spot s
abbrev pub IsChildFor : ℕ → List NodeStock → Spot → ℕ → Type 0
IsChildFor m bs s v = ((v ≡ 0) × ((n : ℕ) → node_at m bs n ≡ Some s → ⊥)) ⊎ ((n : ℕ) × (v ≡ suc n) × (node_at m bs n ≡ Some s))

-- the slot whose word names the spot
abbrev pub IsNamedBy : ℕ → List NodeStock → ℕ → List ℕ → Slot → Type 0
IsNamedBy m bs l [] t = ⊥
IsNamedBy m bs l (d ∷ []) t = t ≡ root l d
IsNamedBy m bs l (d ∷ (e ∷ p)) t = (n : ℕ) × (node_at m bs n ≡ Some (spot l (e ∷ p))) × (d < 16) × (t ≡ body n (suc d))

-- whether the number l is in the list
unfoldable pub has : List ℕ → ℕ → Bool
has [] l = false
has (x ∷ xs) l = cond (x == l) true (has xs l)

-- whether a path is there and is the second one; None where a lane does not select a row
unfoldable pub same_path : Option (List ℕ) → List ℕ → Bool
same_path None p = false
same_path (Some []) [] = true
same_path (Some []) (y ∷ ys) = false
same_path (Some (x ∷ xs)) [] = false
same_path (Some (x ∷ xs)) (y ∷ ys) = cond (x == y) (same_path (Some xs) ys) false

-- of the pair of tails the write tail for 0, and the read tail for 1
abbrev pub tail_word : ℕ × ℕ → ℕ → ℕ
tail_word ts zero = ts.0
tail_word ts (suc k) = ts.1

-- the done word of a ticket: 1 where it is finished, else 0
abbrev pub done_word : Bool → ℕ
done_word b = cond b 1 0

-- how many books are marked
unfoldable pub marked_books : List NodeStock → ℕ
marked_books [] = 0
marked_books (b ∷ bs) = cond b.over 1 0 + marked_books bs

-- the number of the least unused node of writer w; m is the number of nodes of each writer
abbrev pub free_of : ℕ → List NodeStock → ℕ → ℕ
free_of m bs w = w * m + length (stock_of bs w).used

-- the ticket that writer w has just taken for row r: no word is filled, and it is linked in no lane
abbrev pub fresh_ticket : ℕ → RowValue → Ticket
fresh_ticket w r = record { writer = w; row = r; filled = 0; linked = []; is_done = false }

-- whether writer w has linked the ticket in the leaf s
unfoldable pub links : Layout → ℕ → Spot → Ticket → Bool
links layout w s t = cond (t.writer == w) (cond (has t.linked s.lane) (same_path (layout.path t.row s.lane) s.path) false) false

-- the ticket at offset o as a list of one, its offset and its row, where writer w linked it in the leaf s, else none; None is no ticket
unfoldable pub entry_at : Layout → ℕ → Spot → ℕ → Option Ticket → List (ℕ × RowValue)
entry_at layout w s o None = []
entry_at layout w s o (Some t) = cond (links layout w s t) ((o, t.row) ∷ []) []

-- the entries of the writer linked in the leaf before offset o, the newest first
unfoldable pub chain : Layout → List Ticket → ℕ → Spot → ℕ → List (ℕ × RowValue)
chain layout log w s zero = []
chain layout log w s (suc o) = entry_at layout w s o (slice_get log o) ++ chain layout log w s o

-- 0, or the newest offset plus 1
abbrev pub link_to_newest : List (ℕ × RowValue) → ℕ
link_to_newest [] = 0
link_to_newest (x ∷ xs) = suc x.0

-- word j of the cell of lane l, for a row whose chain before it is c: the previous offset and the count, the sum, and the least and greatest
unfoldable pub version_word : Layout → ℕ → ℕ → List (ℕ × RowValue) → RowValue → ℕ
version_word layout l zero c r = halves (link_to_newest c) (cond (layout.is_measured l) (length c + 1) 0)
version_word layout l (suc j) c r = measure_word j (quad_of (map (λ x. layout.amount x l) (r ∷ map (λ x. x.1) c)))

-- word j of the cell of lane l of ticket t at offset o, by its path there; 0 for None, where the lane does not select the row
abbrev pub lane_word : Layout → List Ticket → ℕ → ℕ → ℕ → Ticket → Option (List ℕ) → ℕ
lane_word layout log o l j t None = 0
lane_word layout log o l j t (Some p) = version_word layout l j (chain layout log t.writer (spot l p) o) t.row

-- what a word of ticket t at offset o has to be by its use, once it is filled: a word of the entry, or of the cell of a lane
abbrev pub used_word : Layout → List Ticket → ℕ → Ticket → Use → ℕ
used_word layout log o t (plain i) = get_or (layout.spelled t.row t.writer) i 0
used_word layout log o t (version l j) = lane_word layout log o l j t (layout.path t.row l)

-- what word i of ticket o has to be once it is filled
abbrev pub full_word : Layout → List Ticket → ℕ → Ticket → ℕ → ℕ
full_word layout log o t i = used_word layout log o t (layout.use_of i)

-- what word i of place o has to be: for None, where no ticket was taken, 0; the last word is the done word; words not filled are 0
abbrev pub ticket_word : Layout → List Ticket → ℕ → ℕ → Option Ticket → ℕ
ticket_word layout log o i None = 0
ticket_word layout log o i (Some t) = cond (suc i == layout.sizes.ticket_words) (done_word t.is_done) (cond (nat_lt i t.filled) (full_word layout log o t i) 0)

-- what word j after the label, from 0, of a used node has to be. Above the last level (true) it is child j, and 0 from 16 on; at the last
-- (false) it is the head of nibble j / writers and writer j % writers
abbrev pub NodeWord : Layout → List Ticket → List NodeStock → Spot → ℕ → ℕ → Bool → Type 0
NodeWord layout log bs s j v true = ((j < 16) × IsChildFor layout.sizes.nodes bs (spot s.lane (j ∷ s.path)) v) ⊎ ((16 ≤ j) × (v ≡ 0))
NodeWord layout log bs s j v false =
    v ≡ link_to_newest (chain layout log (j % layout.sizes.writers) (spot s.lane (j / layout.sizes.writers ∷ s.path)) (length log))

-- whether a node for the spot s has children: it stands above the last level of its lane
abbrev pub is_inner : Layout → Spot → Bool
is_inner layout s = nat_lt (suc (length s.path)) (layout.levels s.lane)

-- word j of node n may be v: word 0 is the label, the others are children or heads; None is the spot of a node that is not used
abbrev pub BodyWord : Layout → List Ticket → List NodeStock → ℕ → ℕ → ℕ → Option Spot → Type 0
BodyWord layout log bs n zero v None = v ≡ spare_label layout.sizes.nodes bs n
BodyWord layout log bs n (suc j) v None = v ≡ 0
BodyWord layout log bs n zero v (Some s) = (t : Slot) × IsNamedBy layout.sizes.nodes bs s.lane s.path t × IsReal layout.sizes t
    × (v ≡ 32 * place layout.sizes t + length s.path)
BodyWord layout log bs n (suc j) v (Some s) = NodeWord layout log bs s j v (is_inner layout s)

-- the words that need no more than the tails, the log and the books
abbrev pub IsWordOf : Layout → ℕ × ℕ → List Ticket → List NodeStock → Slot → ℕ → Type 0
IsWordOf layout ts log bs (tail k) v = v ≡ tail_word ts k
IsWordOf layout ts log bs (cell o i) v = v ≡ ticket_word layout log o i (slice_get log o)
IsWordOf layout ts log bs (root l d) v = IsChildFor layout.sizes.nodes bs (spot l (d ∷ [])) v
IsWordOf layout ts log bs (body n j) v = BodyWord layout log bs n j v (node_at layout.sizes.nodes bs n)

-- each word is what the model says
abbrev pub Spells : Layout → ℕ × ℕ → List Ticket → List NodeStock → List ℕ → Type 0
Spells layout ts log bs words = (t : Slot) → IsReal layout.sizes t → IsWordOf layout ts log bs t (get_or words (place layout.sizes t) 0)
