-- What loads tell a pass of the entries that it has seen.
use Rattle.std.specs.Prelude.{ℕ, ◌*◌, ◌<◌, ◌≤◌, ◌≡◌, ◌==◌, ◌⊎◌, zero, suc, List, [], ◌∷◌, ◌++◌, true, false, cond, length, get_or, take, ◌%◌, ◌^◌, Option, Some, None, slice_get}
use Rattle.cf_row.specs.Row.{RowValue}
use Rattle.cf_row.specs.declared.row.Entry.{Entry}
use Rattle.cf_shape.specs.Places.{head_slot}
use Rattle.cf_shape.specs.Places.{Slot}
use Rattle.cf_shape.specs.Places.Slot.{tail, cell}
use Rattle.cf_law.specs.Words.{Spot, spot, Layout, has, same_path, version_word, link_to_newest}
use Rattle.cf_shape.specs.Uses.Use.{version}
use Rattle.cf_law.specs.Passes.{Own, Flight, Book, Cursor, Pass}
use Rattle.cf_law.specs.Steps.{Holds, IsChild, Knows, HoldsInFlight, met_of, mine_chain, own_word}

-- the entry stands in the leaf, as the writer's
abbrev pub IsIn : Layout → ℕ → Spot → Entry → Type 0
IsIn layout w s e = (e.writer ≡ w) × (layout.path e.row s.lane ≡ Some s.path)

-- no entry that was seen goes through the spot
abbrev pub NoneThrough : Layout → Pass → Spot → Type 0
NoneThrough layout p s = (o : ℕ) (e : Entry) (d : ℕ) (xs : List ℕ) → slice_get p.seen o ≡ Some e → layout.path e.row s.lane ≡ Some (d ∷ (xs ++ s.path)) → ⊥

-- no used node of a held book stands for the spot
abbrev pub NoneOwn : Pass → Spot → Type 0
NoneOwn p s = (k j : ℕ) (b : Book) → Holds p k b → slice_get b.used j ≡ Some s → ⊥

-- the entry seen at offset o as a list of one, its offset and its row, where it is in the leaf s as writer w's, else none; None is no entry
abbrev pub pick_at : Layout → ℕ → Spot → ℕ → Option Entry → List (ℕ × RowValue)
pick_at layout w s o None = []
pick_at layout w s o (Some e) = cond (e.writer == w) (cond (same_path (layout.path e.row s.lane) s.path) ((o, e.row) ∷ []) []) []

-- of what was seen, the entries of writer w in the leaf s below the given offset, each with its offset, the newest first
unfoldable pub picks : Layout → ℕ → Spot → List Entry → ℕ → List (ℕ × RowValue)
picks layout w s seen zero = []
picks layout w s seen (suc o) = pick_at layout w s o (slice_get seen o) ++ picks layout w s seen o

-- a walk with this link: a named entry that was seen stands in the leaf, those of the leaf that the walk didn't go by stand before the link, and the named
-- ticket is its writer's alone
pub record WalkTells (layout : Layout) (seen : List Entry) (cursor : Cursor) : Type 0 where
  pub names : (o : ℕ) → cursor.link ≡ suc o → o < length seen → (e : Entry) × (slice_get seen o ≡ Some e) × IsIn layout cursor.writer cursor.spot e
  pub left : (i : ℕ) (e : Entry) → slice_get seen i ≡ Some e → IsIn layout cursor.writer cursor.spot e → (i < cursor.link) ⊎ (has cursor.gone i ≡ true)
  -- no walk of another writer went by the named ticket
  pub apart : (o i w : ℕ) → cursor.link ≡ suc o → slice_get cursor.met i ≡ Some (o, w) → w ≡ cursor.writer

-- what was found, v, as word k of the place o tells of the entry that was seen there
pub record EntryTells (layout : Layout) (seen : List Entry) (o k v : ℕ) : Type 0 where
  pub plains : (e : Entry) → slice_get seen o ≡ Some e → k < layout.plain_words → v ≡ get_or (layout.spelled e.row e.writer) k 0
  pub cells : (e : Entry) (l j : ℕ) (q : List ℕ) → slice_get seen o ≡ Some e → suc k < layout.sizes.ticket_words → layout.use_of k ≡ version l j
      → layout.path e.row l ≡ Some q
      → v ≡ version_word layout l j (picks layout e.writer (spot l q) seen o) e.row

-- the entries of the writer w, from the offset k on, as a book has them
unfoldable pub mine_from : ℕ → ℕ → List Entry → List Own
mine_from w k [] = []
mine_from w k (e ∷ es) = cond (e.writer == w) (record { offset = k; row = e.row } ∷ mine_from w (suc k) es) (mine_from w (suc k) es)

-- all books are held, with no ticket in flight
abbrev pub AtHome : Layout → Pass → Type 0
AtHome layout p = (w : ℕ) → w < layout.sizes.writers → (k : ℕ) × (b : Book) × Holds p k b × (b.writer ≡ w) × (b.flight ≡ None)

-- a writer's head in a leaf, as its book has it: its ticket in flight where that is linked there, else the newest of what it has finished
abbrev pub own_top_by : Layout → Book → Spot → Option Flight → ℕ
own_top_by layout b s None = link_to_newest (mine_chain layout s b.mine)
own_top_by layout b s (Some f) =
    cond (cond (has f.linked s.lane) (same_path (layout.path f.row s.lane) s.path) false) (suc f.offset) (link_to_newest (mine_chain layout s b.mine))

-- the head of the book's writer in the leaf s, as the book has it: the offset of the newest ticket linked there plus 1, or 0
abbrev pub own_top : Layout → Book → Spot → ℕ
own_top layout b s = own_top_by layout b s b.flight

-- the entry fits, and its writer is one
abbrev pub IsFit : Layout → Entry → Type 0
IsFit layout e = (layout.fits e.row ≡ true) × (e.writer < layout.sizes.writers)

-- a used node of a held book stands for the spot
abbrev pub HasNode : Pass → Spot → Type 0
HasNode p s = (k : ℕ) × (j : ℕ) × (b : Book) × Holds p k b × (slice_get b.used j ≡ Some s)

-- either no ticket is left, or the done word (word i) of the ticket after the last seen was found other than 1
abbrev pub EndsThere : Layout → Pass → Slot → ℕ → ℕ → Type 0
EndsThere layout p t i found = (layout.sizes.tickets ≤ length p.seen)
    ⊎ ((length p.seen < layout.sizes.tickets) × (t ≡ cell (length p.seen) i) × (found ≡ 1 → ⊥))

-- What a pass knows is in range.
pub record IsBounded (layout : Layout) (pass : Pass) : Type 0 where
  pub seen : length pass.seen ≤ layout.sizes.tickets
  pub known : (i n : ℕ) (s : Spot) → slice_get pass.known i ≡ Some (s, n) → (n < layout.sizes.writers * layout.sizes.nodes) × (s.lane < layout.sizes.lanes)
      × (0 < length s.path) × (length s.path < layout.levels s.lane)
  pub link : (c : Cursor) → pass.cursor ≡ Some c → c.link ≤ layout.sizes.tickets
  pub writer : (k : ℕ) (b : Book) → Holds pass k b → b.writer < layout.sizes.writers
  pub offset : (k j : ℕ) (b : Book) (x : Own) → Holds pass k b → slice_get b.mine j ≡ Some x → x.offset < layout.sizes.tickets
  pub flight : (k : ℕ) (b : Book) (f : Flight) → HoldsInFlight pass k b f → f.offset < layout.sizes.tickets
  -- the rows that a book has finished fit, and there are no more of them than tickets
  pub rows : (k j : ℕ) (b : Book) (x : Own) → Holds pass k b → slice_get b.mine j ≡ Some x → layout.fits x.row ≡ true
  pub few : (k : ℕ) (b : Book) → Holds pass k b → length b.mine ≤ layout.sizes.tickets
  -- a book's nodes are at most its writer's, and all different
  pub room : (k : ℕ) (b : Book) → Holds pass k b → length b.used ≤ layout.sizes.nodes
  pub apart : (k i j : ℕ) (b : Book) (s : Spot) → Holds pass k b → slice_get b.used i ≡ Some s → slice_get b.used j ≡ Some s → i ≡ j

-- What the law says of the word found at a slot, to a pass that knows as much.
pub record Tells (layout : Layout) (pass : Pass) (slot : Slot) (found : ℕ) : Type 0 where
  -- either tail is no less than what was seen
  pub ahead : (k : ℕ) → k < 2 → slot ≡ tail k → length pass.seen ≤ found
  pub none : (s : Spot) → IsChild layout pass s slot → found ≡ 0 → NoneThrough layout pass s × NoneOwn pass s
  -- a done word is 0 or 1
  pub done : (o i : ℕ) → slot ≡ cell o i → o < layout.sizes.tickets → suc i ≡ layout.sizes.ticket_words → (found ≡ 0) ⊎ (found ≡ 1)
  -- a walk falls: the cell that the cursor names leads below its own ticket
  pub falls : (c : Cursor) (o k : ℕ) → slot ≡ cell o k → pass.cursor ≡ Some c → c.link ≡ suc o → layout.use_of k ≡ version c.spot.lane 0
      → suc k < layout.sizes.ticket_words → found % 2 ^ 32 ≤ o
  pub begins : (node d w l : ℕ) (q : List ℕ) → slot ≡ head_slot layout.sizes node d w → Knows pass (spot l q) node → suc (length q) ≡ layout.levels l → d < 16
      → w < layout.sizes.writers
      → WalkTells layout pass.seen (record { writer = w; spot = spot l (d ∷ q); link = found; gone = []; met = met_of pass.cursor })
  pub goes : (c : Cursor) (o k : ℕ) → slot ≡ cell o k → pass.cursor ≡ Some c → c.link ≡ suc o → layout.use_of k ≡ version c.spot.lane 0
      → suc k < layout.sizes.ticket_words
      → WalkTells layout pass.seen (record { writer = c.writer; spot = c.spot; link = found % 2 ^ 32; gone = o ∷ c.gone; met = (o, c.writer) ∷ c.met })
  pub entry : (o k : ℕ) → slot ≡ cell o k → EntryTells layout pass.seen o k found
  -- an own head
  pub own : (k node d l : ℕ) (q : List ℕ) (b : Book) → slot ≡ head_slot layout.sizes node d b.writer → Holds pass k b → Knows pass (spot l q) node
      → suc (length q) ≡ layout.levels l → d < 16
      → found ≡ own_top layout b (spot l (d ∷ q))
  -- a cell word of an own finished ticket: the version of the own tickets before it and this one
  pub own_cell : (k j i l h : ℕ) (q : List ℕ) (b : Book) (x : Own) → slot ≡ cell x.offset i → Holds pass k b → slice_get b.mine j ≡ Some x
      → suc i < layout.sizes.ticket_words → layout.use_of i ≡ version l h → layout.path x.row l ≡ Some q
      → found ≡ version_word layout l h (mine_chain layout (spot l q) (take j b.mine)) x.row
  -- a word of the own ticket in flight that is filled, a cell's word too: what the row and the own tickets before it give
  pub own_open : (k i : ℕ) (b : Book) (f : Flight) → slot ≡ cell f.offset i → HoldsInFlight pass k b f → i < f.filled → suc i < layout.sizes.ticket_words
      → found ≡ own_word layout b f.row (layout.use_of i)
  -- an own finished ticket's done word is 1
  pub own_done : (k j i : ℕ) (b : Book) (x : Own) → slot ≡ cell x.offset i → Holds pass k b → slice_get b.mine j ≡ Some x → suc i ≡ layout.sizes.ticket_words
      → found ≡ 1
  -- of a held book's finished tickets those that were seen are the first
  pub mine : (k : ℕ) (b : Book) → Holds pass k b → take (length (mine_from b.writer 0 pass.seen)) b.mine ≡ mine_from b.writer 0 pass.seen
  -- with all books at home, where the ticket after the last seen isn't finished, each writer's tickets are its entries, and a book is marked only where all
  -- places are taken
  pub home : (i : ℕ) → AtHome layout pass → suc i ≡ layout.sizes.ticket_words → EndsThere layout pass slot i found → (k : ℕ) (b : Book) → Holds pass k b
      → b.mine ≡ mine_from b.writer 0 pass.seen
  pub full : (i : ℕ) → AtHome layout pass → suc i ≡ layout.sizes.ticket_words → EndsThere layout pass slot i found → (k : ℕ) (b : Book) → Holds pass k b
      → b.over ≡ true → length pass.seen ≡ layout.sizes.tickets
  -- with all books at home the proper prefixes of the paths of what was seen have nodes
  pub paths : AtHome layout pass → (o l d e : ℕ) (xs q : List ℕ) (x : Entry) → slice_get pass.seen o ≡ Some x → layout.path x.row l ≡ Some (d ∷ (xs ++ e ∷ q))
      → HasNode pass (spot l (e ∷ q))
  -- what was seen fits
  pub fit : (o : ℕ) (e : Entry) → slice_get pass.seen o ≡ Some e → IsFit layout e
  -- and then the read tail stays
  pub stays : slot ≡ tail 1 → AtHome layout pass → ((k : ℕ) (b : Book) → Holds pass k b → b.mine ≡ mine_from b.writer 0 pass.seen) → found ≤ length pass.seen

-- these entries go on where those that were seen, now and before the last join, stop
pub record GoesOn (pass : Pass) (entries : List Entry) : Type 0 where
  pub seen : take (length pass.seen) entries ≡ pass.seen
  pub olds : (k : ℕ) (old : List Entry) → slice_get pass.olds k ≡ Some old → take (length old) entries ≡ old

-- What a step tells its caller: the pass afterwards, and what the law says of the word found. The entries are those below the read tail after the step.
pub record StepTells (layout : Layout) (pass : Pass) (slot : Slot) (after : ℕ → List Entry → Pass) (found left : ℕ) (p' : Pass) : Type 0 where
  pub entries : List Entry
  pub goes_on : GoesOn pass entries
  pub long : slot ≡ tail 1 → length entries ≡ left
  pub is : p' ≡ after found entries
  pub tells : Tells layout pass slot found
  pub fit : (o : ℕ) (e : Entry) → slice_get entries o ≡ Some e → IsFit layout e
  pub bounds : IsBounded layout p'
  -- of a held book's finished tickets those that were seen are the first
  pub mine : (k : ℕ) (b : Book) → Holds p' k b → take (length (mine_from b.writer 0 p'.seen)) b.mine ≡ mine_from b.writer 0 p'.seen
