-- What a lawful world says of its words, each clause by itself.
use Rattle.std.specs.Prelude.{ℕ, ◌+◌, ◌*◌, ◌<◌, ◌≤◌, ◌≡◌, suc, List, ◌∷◌, ◌++◌, length, get_or, true, Some, None, slice_get}
use Rattle.cf_shape.specs.Places.{Slot, place, IsReal, head_slot}
use Rattle.cf_shape.specs.Places.Slot.{tail, cell, body}
use Rattle.cf_law.specs.Words.{Spot, spot, Layout, Ticket, NodeStock, stock_of, marked_books, node_at, IsNamedBy, free_of, has, done_word, full_word, chain, link_to_newest}
use Rattle.cf_law.specs.Passes.{Cursor, Pass}
use Rattle.cf_law.specs.Lawful.{Base}
use Rattle.cf_law.specs.Events.{word_at}

-- the slot t is a child word that stands for the spot s
pub record IsChildWord (sh : Layout) (stocks : List NodeStock) (spot : Spot) (slot : Slot) : Type 0 where
  pub named : IsNamedBy sh.sizes.nodes stocks spot.lane spot.path slot
  pub real : IsReal sh.sizes slot
  pub inner : length spot.path < sh.levels spot.lane

-- what is so of the words of a table, where they stand for `base` and these are the passes over it
pub record SaysPlainly (sh : Layout) (base : Base) (passes : List Pass) : Type 0 where
  -- the tickets are at most the capacity; the write tail is their number and that of the marked books, and a mark exists only where all places are taken
  pub tickets : length base.log ≤ sh.sizes.tickets
  pub write_tail : word_at sh base.words (tail 0) ≡ length base.log + marked_books base.stocks
  pub mark : (w : ℕ) → (stock_of base.stocks w).over ≡ true → length base.log ≡ sh.sizes.tickets
  -- the read tail is at most the number of tickets, and those below it are finished
  pub read_tail : word_at sh base.words (tail 1) ≤ length base.log
  pub covered : (o : ℕ) (t : Ticket) → o < word_at sh base.words (tail 1) → slice_get base.log o ≡ Some t → t.is_done ≡ true
  -- a done word is 1 for finished tickets, else 0
  pub done : (o i : ℕ) (t : Ticket) → slice_get base.log o ≡ Some t → suc i ≡ sh.sizes.ticket_words → word_at sh base.words (cell o i) ≡ done_word t.is_done
  -- a filled word is what it has to be, the others are 0, and so are all words of places without ticket
  pub filled : (o i : ℕ) (t : Ticket) → slice_get base.log o ≡ Some t → suc i < sh.sizes.ticket_words → i < t.filled
      → word_at sh base.words (cell o i) ≡ full_word sh base.log o t i
  pub unfilled : (o i : ℕ) (t : Ticket) → slice_get base.log o ≡ Some t → suc i < sh.sizes.ticket_words → t.filled ≤ i → word_at sh base.words (cell o i) ≡ 0
  pub empty : (o i : ℕ) → o < sh.sizes.tickets → i < sh.sizes.ticket_words → slice_get base.log o ≡ None → word_at sh base.words (cell o i) ≡ 0
  -- a head is the writer's newest ticket linked there
  pub head : (node d w l : ℕ) (q : List ℕ) → node_at sh.sizes.nodes base.stocks node ≡ Some (spot l q) → suc (length q) ≡ sh.levels l → d < 16
      → w < sh.sizes.writers
      → word_at sh base.words (head_slot sh.sizes node d w) ≡ link_to_newest (chain sh base.log w (spot l (d ∷ q)) (length base.log))
  -- a used node's label is the place of the child word that names it, and its level; that word names it
  pub label : (n : ℕ) (s : Spot) → node_at sh.sizes.nodes base.stocks n ≡ Some s
      → (t : Slot) × IsChildWord sh base.stocks s t × (word_at sh base.words (body n 0) ≡ 32 * place sh.sizes t + length s.path)
      × (word_at sh base.words t ≡ suc n)
  -- a nonzero child word names a used node of its own lane and prefix, and each used node is named once
  pub child : (n : ℕ) (s : Spot) (t : Slot) → IsChildWord sh base.stocks s t → word_at sh base.words t ≡ suc n → node_at sh.sizes.nodes base.stocks n ≡ Some s
  pub once : (n : ℕ) (s r : Spot) (t u : Slot) → IsChildWord sh base.stocks s t → IsChildWord sh base.stocks r u → word_at sh base.words t ≡ suc n
      → word_at sh base.words u ≡ suc n → t ≡ u
  -- a node that isn't used has no word but its label, and the least one's label is its book's
  pub unused : (n j : ℕ) → IsReal sh.sizes (body n (suc j)) → node_at sh.sizes.nodes base.stocks n ≡ None → word_at sh base.words (body n (suc j)) ≡ 0
  pub spare : (w : ℕ) → length (stock_of base.stocks w).used < sh.sizes.nodes → IsReal sh.sizes (body (free_of sh.sizes.nodes base.stocks w) 0)
      → word_at sh base.words (body (free_of sh.sizes.nodes base.stocks w) 0) ≡ (stock_of base.stocks w).label
  -- a finished ticket is linked in each lane that selects it, and a linked one has a whole path
  pub linked : (o l : ℕ) (t : Ticket) (p : List ℕ) → slice_get base.log o ≡ Some t → t.is_done ≡ true → sh.path t.row l ≡ Some p → has t.linked l ≡ true
  pub path : (o l : ℕ) (t : Ticket) (d : ℕ) (xs : List ℕ) (e : ℕ) (p : List ℕ) → slice_get base.log o ≡ Some t → has t.linked l ≡ true
      → sh.path t.row l ≡ Some (d ∷ (xs ++ e ∷ p))
      → (k : ℕ) × (node_at sh.sizes.nodes base.stocks k ≡ Some (spot l (e ∷ p)))
  -- a known child word has its value
  pub known : (k i n : ℕ) (p : Pass) (s : Spot) (t : Slot) → slice_get passes k ≡ Some p → slice_get p.known i ≡ Some (s, n) → IsReal sh.sizes t
      → IsNamedBy sh.sizes.nodes base.stocks s.lane s.path t → word_at sh base.words t ≡ suc n
  -- a cursor names a place whose words spell an entry of its writer and leaf
  pub cursor : (k o i : ℕ) (p : Pass) (c : Cursor) → slice_get passes k ≡ Some p → p.cursor ≡ Some c → c.link ≡ suc o → c.spot.lane < sh.sizes.lanes
      → i < sh.plain_words
      → (t : Ticket) × (slice_get base.log o ≡ Some t) × (t.writer ≡ c.writer) × (sh.path t.row c.spot.lane ≡ Some c.spot.path)
      × (word_at sh base.words (cell o i) ≡ get_or (sh.spelled t.row t.writer) i 0)
