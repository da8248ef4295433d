-- The steps of a pass: when each is lawful, which word it touches, what it leaves there, and what the pass is afterwards. They read the acting pass alone.
use Rattle.std.specs.Prelude.{ℕ, ◌+◌, ◌*◌, ◌%◌, ◌^◌, ◌<◌, ◌≤◌, ◌≡◌, ◌==◌, ◌⊎◌, zero, suc, List, [], ◌∷◌, ◌++◌, Bool, true, false, cond, nat_lt, length, set, get_or, take, Option, Some, None, slice_get}
use Rattle.cf_row.specs.Row.{RowValue}
use Rattle.cf_row.specs.declared.row.Entry.{Entry}
use Rattle.cf_shape.specs.Places.{head_slot}
use Rattle.cf_shape.specs.Uses.{Use}
use Rattle.cf_shape.specs.Places.{Slot, place, IsReal}
use Rattle.cf_shape.specs.Places.Slot.{tail, cell, root, body}
use Rattle.cf_law.specs.Words.{Spot, spot, Layout, Ticket, has, same_path, version_word}
use Rattle.cf_shape.specs.Uses.Use.{plain, version}
use Rattle.cf_law.specs.Law.{Skips, IsWhole}
use Rattle.cf_law.specs.Passes.{Own, Flight, Book, Look, Cursor, Pass}

-- what a pass does in one step. Tickets are named by their offsets, lanes, nodes, words and writers by their numbers, all from 0:
-- take_ticket row; store_cell offset word value; finish_record offset; advance t, the read tail from t to t + 1; load_tail asked, which is
-- true where the tail is kept as that of an ask; look_done offset; load_word offset word; label node value; link place node, with the
-- place of the child word; store_head lane node nibble offset; load_child place, likewise; load_head node nibble writer; load_cell offset
-- lane word, with the word counted in the cell
pub data Act : Type 0 where
  take_ticket : RowValue → Act
  store_cell : ℕ → ℕ → ℕ → Act
  finish_record : ℕ → Act
  advance : ℕ → Act
  load_tail : Bool → Act
  look_done : ℕ → Act
  load_word : ℕ → ℕ → Act
  label : ℕ → ℕ → Act
  link : ℕ → ℕ → Act
  store_head : ℕ → ℕ → ℕ → ℕ → Act
  load_child : ℕ → Act
  load_head : ℕ → ℕ → ℕ → Act
  load_cell : ℕ → ℕ → ℕ → Act

-- word i of the cell of lane l of ticket o was loaded: a walk goes on where the cursor names that cell and i is 0
abbrev pub cursor_after_cell : ℕ → ℕ → ℕ → ℕ → Option Cursor → Option Cursor
cursor_after_cell o l i n None = None
cursor_after_cell o l (suc i) n (Some c) = Some c
cursor_after_cell o l zero n (Some c) =
    cond (c.link == suc o)
    (cond (c.spot.lane == l) (Some record { writer = c.writer; spot = c.spot; link = n % 2 ^ 32; gone = o ∷ c.gone; met = (o, c.writer) ∷ c.met }) (Some c))
    (Some c)

-- what the walks went by so far
abbrev pub met_of : Option Cursor → List (ℕ × ℕ)
met_of None = []
met_of (Some c) = c.met

-- the look of a pass that has loaded nothing yet
abbrev pub no_look : Look
no_look = record { word = 0; value = 0; count = 0 }

-- a child word after a link of the node: where it was 0 it names the node, else it stays
abbrev pub child_word : ℕ → ℕ → ℕ
child_word node zero = suc node
child_word node (suc n) = suc n

-- the list without its k-th
unfoldable pub without : {A : Type 0} → ℕ → List A → List A
without k [] = []
without zero (x ∷ xs) = xs
without (suc k) (x ∷ xs) = x ∷ without k xs

-- writer w's ticket in flight f, as a ticket of the log
abbrev pub ticket_of : ℕ → Flight → Ticket
ticket_of w f = record { writer = w; row = f.row; filled = f.filled; linked = f.linked; is_done = false }

-- the ticket in flight that was just taken at offset o for row r: no word is filled, and it is linked in no lane
abbrev pub fresh_flight : ℕ → RowValue → Flight
fresh_flight o r = record { offset = o; row = r; filled = 0; linked = [] }

-- the book with f as its ticket in flight
abbrev pub book_with_flight : Book → Flight → Book
book_with_flight b f = record b { flight = Some f }

-- the book after the write tail was found at n: with a ticket in flight, or marked where n is past the last place
abbrev pub book_with_ticket : Layout → RowValue → ℕ → Book → Book
book_with_ticket layout r n b = cond (nat_lt n layout.sizes.tickets) (book_with_flight b (fresh_flight n r)) (record b { over = true })

-- the book after word i of its ticket in flight f was stored
abbrev pub book_with_word : ℕ → Book → Flight → Book
book_with_word i b f = book_with_flight b (record f { filled = suc i })

-- the book after its ticket in flight f was finished
abbrev pub book_with_record : Book → Flight → Book
book_with_record b f = record b { mine = b.mine ++ record { offset = f.offset; row = f.row } ∷ []; flight = None }

-- the book after its ticket in flight f was linked in lane l
abbrev pub book_with_head : ℕ → Book → Flight → Book
book_with_head l b f = book_with_flight b (record f { linked = l ∷ f.linked })

-- the book after v was stored as the label of its least unused node
abbrev pub book_with_label : ℕ → Book → Book
book_with_label v b = record b { label = v }

-- the book after its least unused node was linked for the spot s; the next one has no label yet
abbrev pub book_with_node : Spot → Book → Book
book_with_node s b = record b { used = b.used ++ s ∷ []; label = 0 }

-- the least own node that is not used
abbrev pub free_node : Layout → Book → ℕ
free_node layout b = b.writer * layout.sizes.nodes + length b.used

-- of what a writer has finished, the entries in a leaf, the newest first
unfoldable pub mine_chain : Layout → Spot → List Own → List (ℕ × RowValue)
mine_chain layout s [] = []
mine_chain layout s (x ∷ xs) = mine_chain layout s xs ++ cond (same_path (layout.path x.row s.lane) s.path) ((x.offset, x.row) ∷ []) []

-- word j of the cell of lane l for row r, by the book's own finished tickets; 0 for None, where the lane does not select the row
abbrev pub own_lane_word : Layout → Book → RowValue → ℕ → ℕ → Option (List ℕ) → ℕ
own_lane_word layout b r l j None = 0
own_lane_word layout b r l j (Some q) = version_word layout l j (mine_chain layout (spot l q) b.mine) r

-- what a word of the ticket in flight with row r has to be by its use: a word of the entry, or of the cell of a lane
abbrev pub own_word : Layout → Book → RowValue → Use → ℕ
own_word layout b r (plain i) = get_or (layout.spelled r b.writer) i 0
own_word layout b r (version l j) = own_lane_word layout b r l j (layout.path r l)

-- the pass with b as its k-th book
abbrev pub pass_with_book : ℕ → Book → Pass → Pass
pass_with_book k b p = record p { books = set p.books k b }

-- the pass after one more load: at this place that was found
abbrev pub pass_with_look : ℕ → ℕ → Pass → Pass
pass_with_look word found p = record p { look = record { word = word; value = found; count = p.look.count + 1 } }

-- `seen` reaches n of these entries, where it was shorter, and then the cursor ends
abbrev pub pass_that_sees : ℕ → List Entry → Pass → Pass
pass_that_sees n es p = cond (nat_lt (length p.seen) n) (record p { seen = take n es; cursor = None }) p

-- the pass after the read tail was found at n, with the entries es below it; where that was asked, n is kept as the tail of an ask
abbrev pub pass_with_tail : Bool → ℕ → List Entry → Pass → Pass
pass_with_tail asked n es p = pass_with_look 1 n (record (pass_that_sees n es p) { tails = cond asked (p.tails ++ n ∷ []) p.tails })

-- the pass that from now on knows node n to stand for the spot s
abbrev pub pass_with_node : Spot → ℕ → Pass → Pass
pass_with_node s n p = record p { known = (s, n) ∷ p.known }

-- the pass after its k-th book b tried to link its node for the spot s: 0 was found, and the node is used, or that of another was
abbrev pub pass_with_link : ℕ → Book → Spot → ℕ → Pass → ℕ → Pass
pass_with_link k b s node p zero = pass_with_book k (book_with_node s b) (pass_with_node s node p)
pass_with_link k b s node p (suc n) = pass_with_node s n p

-- the pass after the child word of the spot s was loaded, at this place: 0 is no node, else the number of the node plus 1
abbrev pub pass_with_child : ℕ → Spot → Pass → ℕ → Pass
pass_with_child word s p zero = pass_with_look word 0 p
pass_with_child word s p (suc n) = pass_with_look word (suc n) (pass_with_node s n p)

-- the pass after the head of writer w in the leaf s was loaded, at this place, and n found: a walk begins there
abbrev pub pass_with_head : ℕ → ℕ → Spot → Pass → ℕ → Pass
pass_with_head word w s p n = pass_with_look word n (record p { cursor = Some record { writer = w; spot = s; link = n; gone = []; met = met_of p.cursor } })

-- the pass after word i of the cell of lane l of ticket o was loaded, at this place, and n found: a walk that named it goes on
abbrev pub pass_with_cell : ℕ → ℕ → ℕ → ℕ → Pass → ℕ → Pass
pass_with_cell word o l i p n = pass_with_look word n (record p { cursor = cursor_after_cell o l i n p.cursor })

-- b is the pass's k-th book
abbrev pub Holds : Pass → ℕ → Book → Type 0
Holds p k b = slice_get p.books k ≡ Some b

-- b is the pass's k-th book, and f is its ticket in flight
abbrev pub HoldsInFlight : Pass → ℕ → Book → Flight → Type 0
HoldsInFlight p k b f = (slice_get p.books k ≡ Some b) × (b.flight ≡ Some f)

-- word i is the next: what stands before is filled or passed over, and it is not passed over itself
pub record IsNext (layout : Layout) (ticket : Ticket) (i : ℕ) : Type 0 where
  pub from : ticket.filled ≤ i
  pub skipped : (k : ℕ) → ticket.filled ≤ k → k < i → Skips layout ticket (layout.use_of k)
  pub wanted : Skips layout ticket (layout.use_of i) → ⊥
  pub within : suc i < layout.sizes.ticket_words

-- the slot t is a child word of a root or of a node that the pass knows, and stands for the spot
abbrev pub Reaches : Pass → ℕ → List ℕ → Slot → Type 0
Reaches p l [] t = ⊥
Reaches p l (d ∷ []) t = t ≡ root l d
Reaches p l (d ∷ (e ∷ q)) t = (n : ℕ) × (i : ℕ) × (slice_get p.known i ≡ Some (spot l (e ∷ q), n)) × (d < 16) × (t ≡ body n (suc d))

-- a child word that the pass may load, label or link
pub record IsChild (layout : Layout) (pass : Pass) (spot : Spot) (slot : Slot) : Type 0 where
  pub reaches : Reaches pass spot.lane spot.path slot
  pub real : IsReal layout.sizes slot
  pub inner : length spot.path < layout.levels spot.lane

-- the pass knows the node of this lane and prefix
abbrev pub Knows : Pass → Spot → ℕ → Type 0
Knows p s n = (i : ℕ) × (slice_get p.known i ≡ Some (s, n))

-- ticket o is the pass's own
abbrev pub IsOwn : Pass → ℕ → Type 0
IsOwn p o = (k : ℕ) × (b : Book) × Holds p k b
    × (((j : ℕ) × (x : Own) × (slice_get b.mine j ≡ Some x) × (x.offset ≡ o)) ⊎ ((f : Flight) × (b.flight ≡ Some f) × (f.offset ≡ o)))

-- the cursor names the cell of ticket o in its own lane
abbrev pub IsNamed : Pass → ℕ → ℕ → Type 0
IsNamed p o l = (c : Cursor) × (p.cursor ≡ Some c) × (c.link ≡ suc o) × (c.spot.lane ≡ l)

-- the label of a node that is to stand for the spot s, whose child word is the slot t: 32 times its place, plus the level
abbrev pub label_of : Layout → Spot → Slot → ℕ
label_of layout s t = 32 * place layout.sizes t + length s.path

-- A lawful step of the pass p: the act, the word's slot, what it leaves there by what it finds, and the pass afterwards, by what it finds and by the entries
-- that the words below the read tail spell.
pub data Step (layout : Layout) (p : Pass) : Act → Slot → (ℕ → ℕ) → (ℕ → List Entry → Pass) → Type 0 where
  takes : (r : RowValue) (b : Book) → layout.fits r ≡ true → p.books ≡ b ∷ [] → b.over ≡ false → b.flight ≡ None
      → Step layout p (take_ticket r) (tail 0) (λ n. suc n) (λ n es. record p { books = book_with_ticket layout r n b ∷ [] })
  stores : (k i : ℕ) (b : Book) (f : Flight) → HoldsInFlight p k b f → IsNext layout (ticket_of b.writer f) i
      → Step layout p (store_cell f.offset i (own_word layout b f.row (layout.use_of i))) (cell f.offset i) (λ n. own_word layout b f.row (layout.use_of i))
      (λ n es. pass_with_book k (book_with_word i b f) p)
  finishes : (k i : ℕ) (b : Book) (f : Flight) → HoldsInFlight p k b f → suc i ≡ layout.sizes.ticket_words → IsWhole layout (ticket_of b.writer f)
      → ((l : ℕ) (q : List ℕ) → layout.path f.row l ≡ Some q → has f.linked l ≡ true)
      → Step layout p (finish_record f.offset) (cell f.offset i) (λ n. 1) (λ n es. pass_with_book k (book_with_record b f) p)
  advances : (t i : ℕ) → t ≤ length p.seen → t < layout.sizes.tickets → suc i ≡ layout.sizes.ticket_words → p.look.word ≡ place layout.sizes (cell t i)
      → p.look.value ≡ 1
      → Step layout p (advance t) (tail 1) (λ n. cond (n == t) (suc t) n) (λ n es. pass_that_sees (suc t) es p)
  loads_tail : (asked : Bool) → Step layout p (load_tail asked) (tail 1) (λ n. n) (λ n es. pass_with_tail asked n es p)
  looks_done : (o i : ℕ) → o < layout.sizes.tickets → suc i ≡ layout.sizes.ticket_words
      → Step layout p (look_done o) (cell o i) (λ n. n) (λ n es. pass_with_look (place layout.sizes (cell o i)) n p)
  loads_word : (o i : ℕ) → o < length p.seen → i < layout.sizes.ticket_words
      → Step layout p (load_word o i) (cell o i) (λ n. n) (λ n es. pass_with_look (place layout.sizes (cell o i)) n p)
  labels : (k : ℕ) (b : Book) (s : Spot) (t : Slot) → Holds p k b → length b.used < layout.sizes.nodes → IsChild layout p s t
      → Step layout p (label (free_node layout b) (label_of layout s t)) (body (free_node layout b) 0) (λ n. label_of layout s t)
      (λ n es. pass_with_book k (book_with_label (label_of layout s t) b) p)
  links : (k : ℕ) (b : Book) (s : Spot) (t : Slot) → Holds p k b → length b.used < layout.sizes.nodes → IsChild layout p s t → b.label ≡ label_of layout s t
      → Step layout p (link (place layout.sizes t) (free_node layout b)) t (λ n. child_word (free_node layout b) n)
      (λ n es. pass_with_link k b s (free_node layout b) p n)
  heads : (k l d node : ℕ) (q : List ℕ) (b : Book) (f : Flight) → HoldsInFlight p k b f → IsWhole layout (ticket_of b.writer f) → has f.linked l ≡ false
      → layout.path f.row l ≡ Some (d ∷ q) → Knows p (spot l q) node
      → Step layout p (store_head l node d f.offset) (head_slot layout.sizes node d b.writer) (λ n. suc f.offset)
      (λ n es. pass_with_book k (book_with_head l b f) p)
  loads_child : (s : Spot) (t : Slot) → IsChild layout p s t
      → Step layout p (load_child (place layout.sizes t)) t (λ n. n) (λ n es. pass_with_child (place layout.sizes t) s p n)
  loads_head : (node d w l : ℕ) (q : List ℕ) → Knows p (spot l q) node → suc (length q) ≡ layout.levels l → d < 16 → w < layout.sizes.writers
      → Step layout p (load_head node d w) (head_slot layout.sizes node d w) (λ n. n)
      (λ n es. pass_with_head (place layout.sizes (head_slot layout.sizes node d w)) w (spot l (d ∷ q)) p n)
  loads_cell : (o l i k : ℕ) → o < layout.sizes.tickets → layout.use_of k ≡ version l i → suc k < layout.sizes.ticket_words → IsOwn p o
      ⊎ ((o < length p.seen) ⊎ IsNamed p o l)
      → Step layout p (load_cell o l i) (cell o k) (λ n. n) (λ n es. pass_with_cell (place layout.sizes (cell o k)) o l i p n)

-- a new pass that holds these books and has seen these entries; it knows nothing else
abbrev pub new_pass : List Book → List Entry → Pass
new_pass books seen = record { books = books; seen = seen; olds = []; tails = []; told = []; look = no_look; known = []; cursor = None; spent = false }

-- the pass that is left where one was joined away: it holds nothing and may do nothing
abbrev pub spent_pass : Pass
spent_pass = record (new_pass [] []) { spent = true }

-- the other's books come along, the longer `seen` stays, and then the cursor ends where it grew
abbrev pub joined_pass : Pass → Pass → Pass
joined_pass p q =
    record (pass_that_sees (length q.seen) q.seen p) { books = p.books ++ q.books; olds = p.seen ∷ (q.seen ∷ []); told = (p.told ++ q.told) ++ q.tails }

-- no ticket of the pass is in flight
abbrev pub IsAtRest : Pass → Type 0
IsAtRest p = (k : ℕ) (b : Book) → Holds p k b → b.flight ≡ None

-- a lawful split: whose book goes, what stays, and the new pass
pub data Splits (p : Pass) : Option ℕ → Pass → Pass → Type 0 where
  bare : Splits p None p (new_pass [] p.seen)
  hands : (k : ℕ) (b : Book) → Holds p k b → Splits p (Some b.writer) (record p { books = without k p.books }) (new_pass (b ∷ []) p.seen)
