-- What each event that was made asked for.
use Rattle.std.proofs.Common.{◌≡◌, ℕ, ◌<◌, ◌≤◌, ◌⊎◌, suc, List, [], ◌∷◌, length, Option, Some, None, true, false, refl}
use Rattle.cf_row.specs.Row.{RowValue}
use Rattle.cf_row.specs.declared.row.Entry.{Entry}
use Rattle.cf_shape.specs.Places.{Slot, place}
use Rattle.cf_shape.specs.Places.Slot.{cell}
use Rattle.cf_shape.specs.Uses.Use.{version}
use Rattle.cf_law.specs.Words.{Spot, spot, Layout, has}
use Rattle.cf_law.specs.Law.{IsWhole}
use Rattle.cf_law.specs.Passes.{Book, Flight, Pass}
use Rattle.cf_law.specs.Steps.{Act, Step, Splits, Holds, HoldsInFlight, IsNext, IsChild, Knows, IsOwn, IsNamed, free_node, label_of, ticket_of, own_word}
use Rattle.cf_law.specs.Steps.Act.{store_cell, finish_record, advance, load_word, label, link, store_head, load_child, load_head, load_cell}
use Rattle.cf_law.specs.Steps.Step.{stores, finishes, advances, loads_word, labels, links, heads, loads_child, loads_head, loads_cell}
use Rattle.cf_law.specs.Lawful.{World}
use Rattle.cf_law.specs.Events.{IsEvent, IsLive}
use Rattle.cf_law.specs.Events.WorldEvent.{acts, splits}
use Rattle.cf_law.specs.Events.IsEvent.{steps, parts}

-- a step of that name by the pass
pub record Acts (sh : Layout) (x : World) (k : ℕ) (a : Act) : Type 0 where
  pub pass : Pass
  pub slot : Slot
  pub change : ℕ → ℕ
  pub after : ℕ → List Entry → Pass
  pub live : IsLive x k pass
  pub step : Step sh pass a slot change after

pub acts_of : (sh : Layout) (x : World) (k : ℕ) (a : Act) (y : World) → IsEvent sh x k (acts a) y → Acts sh x k a
acts_of sh x k a y (steps p c t f g live step) = record { pass = p; slot = t; change = f; after = g; live = live; step = step }

pub record Takes (sh : Layout) (p : Pass) (r : RowValue) : Type 0 where
  pub book : Book
  pub fits : sh.fits r ≡ true
  pub one : p.books ≡ book ∷ []
  pub free : book.over ≡ false
  pub rests : book.flight ≡ None

pub record Stores (sh : Layout) (p : Pass) (o i v : ℕ) : Type 0 where
  pub place : ℕ
  pub book : Book
  pub flight : Flight
  pub flies : HoldsInFlight p place book flight
  pub next : IsNext sh (ticket_of book.writer flight) i
  pub offset : flight.offset ≡ o
  pub value : own_word sh book flight.row (sh.use_of i) ≡ v

pub stores_of : (sh : Layout) (p : Pass) (o i v : ℕ) (t : Slot) (f : ℕ → ℕ) (g : ℕ → List Entry → Pass) → Step sh p (store_cell o i v) t f g → Stores sh p o i v
stores_of sh p o i v t f g (stores k j b fl flies next) = record { place = k; book = b; flight = fl; flies = flies; next = next; offset = refl; value = refl }

pub record Finishes (sh : Layout) (p : Pass) (o : ℕ) : Type 0 where
  pub place : ℕ
  pub book : Book
  pub flight : Flight
  pub flies : HoldsInFlight p place book flight
  pub whole : IsWhole sh (ticket_of book.writer flight)
  pub linked : (l : ℕ) (q : List ℕ) → sh.path flight.row l ≡ Some q → has flight.linked l ≡ true
  pub offset : flight.offset ≡ o

pub finishes_of : (sh : Layout) (p : Pass) (o : ℕ) (t : Slot) (f : ℕ → ℕ) (g : ℕ → List Entry → Pass) → Step sh p (finish_record o) t f g → Finishes sh p o
finishes_of sh p o t f g (finishes k i b fl flies last whole linked) =
    record { place = k; book = b; flight = fl; flies = flies; whole = whole; linked = linked; offset = refl }

pub record Advances (sh : Layout) (p : Pass) (t : ℕ) : Type 0 where
  pub last : ℕ
  pub seen : t ≤ length p.seen
  pub within : t < sh.sizes.tickets
  pub is_last : suc last ≡ sh.sizes.ticket_words
  pub word : p.look.word ≡ place sh.sizes (cell t last)
  pub value : p.look.value ≡ 1

pub advances_of : (sh : Layout) (p : Pass) (n : ℕ) (t : Slot) (f : ℕ → ℕ) (g : ℕ → List Entry → Pass) → Step sh p (advance n) t f g → Advances sh p n
advances_of sh p n t f g (advances m i seen within last word value) =
    record { last = i; seen = seen; within = within; is_last = last; word = word; value = value }

pub loads_of : (sh : Layout) (p : Pass) (o i : ℕ) (t : Slot) (f : ℕ → ℕ) (g : ℕ → List Entry → Pass) → Step sh p (load_word o i) t f g → (o < length p.seen)
    × (i < sh.sizes.ticket_words)
loads_of sh p o i t f g (loads_word m j seen within) = (seen, within)

pub record Parts (sh : Layout) (x : World) (k : ℕ) (w : Option ℕ) : Type 0 where
  pub pass : Pass
  pub left : Pass
  pub right : Pass
  pub live : IsLive x k pass
  pub split : Splits pass w left right

pub parts_of : (sh : Layout) (x : World) (k : ℕ) (w : Option ℕ) (y : World) → IsEvent sh x k (splits w) y → Parts sh x k w
parts_of sh x k w y (parts p left right v live split) = record { pass = p; left = left; right = right; live = live; split = split }

-- the child word, by its place
pub child_of : (sh : Layout) (p : Pass) (at : ℕ) (t : Slot) (f : ℕ → ℕ) (g : ℕ → List Entry → Pass) → Step sh p (load_child at) t f g → (s : Spot)
    × (u : Slot) × IsChild sh p s u × (place sh.sizes u ≡ at)
child_of sh p at t f g (loads_child s u child) = (s, u, child, refl)

pub record HeadLoads (sh : Layout) (p : Pass) (node d w : ℕ) : Type 0 where
  pub lane : ℕ
  pub above : List ℕ
  pub known : Knows p (spot lane above) node
  pub leaf : suc (length above) ≡ sh.levels lane
  pub low : d < 16
  pub writer : w < sh.sizes.writers

pub head_load_of : (sh : Layout) (p : Pass) (node d w : ℕ) (t : Slot) (f : ℕ → ℕ) (g : ℕ → List Entry → Pass) → Step sh p (load_head node d w) t f g
    → HeadLoads sh p node d w
head_load_of sh p node d w t f g (loads_head n e v l q known leaf low writer) =
    record { lane = l; above = q; known = known; leaf = leaf; low = low; writer = writer }

pub record CellLoads (sh : Layout) (p : Pass) (o l i : ℕ) : Type 0 where
  pub word : ℕ
  pub low : o < sh.sizes.tickets
  pub is_version : sh.use_of word ≡ version l i
  pub within : suc word < sh.sizes.ticket_words
  pub may : IsOwn p o ⊎ ((o < length p.seen) ⊎ IsNamed p o l)

pub cell_load_of : (sh : Layout) (p : Pass) (o l i : ℕ) (t : Slot) (f : ℕ → ℕ) (g : ℕ → List Entry → Pass) → Step sh p (load_cell o l i) t f g
    → CellLoads sh p o l i
cell_load_of sh p o l i t f g (loads_cell m n j k low is_version within may) =
    record { word = k; low = low; is_version = is_version; within = within; may = may }

pub record Labels (sh : Layout) (p : Pass) (node v : ℕ) : Type 0 where
  pub place : ℕ
  pub book : Book
  pub spot : Spot
  pub slot : Slot
  pub held : Holds p place book
  pub room : length book.used < sh.sizes.nodes
  pub child : IsChild sh p spot slot
  pub own : free_node sh book ≡ node
  pub value : label_of sh spot slot ≡ v

pub labels_of : (sh : Layout) (p : Pass) (node v : ℕ) (t : Slot) (f : ℕ → ℕ) (g : ℕ → List Entry → Pass) → Step sh p (label node v) t f g → Labels sh p node v
labels_of sh p node v t f g (labels k b s u held room child) =
    record { place = k; book = b; spot = s; slot = u; held = held; room = room; child = child; own = refl; value = refl }

pub record Links (sh : Layout) (p : Pass) (at node : ℕ) : Type 0 where
  pub book_at : ℕ
  pub book : Book
  pub spot : Spot
  pub slot : Slot
  pub held : Holds p book_at book
  pub room : length book.used < sh.sizes.nodes
  pub child : IsChild sh p spot slot
  pub label : book.label ≡ label_of sh spot slot
  pub own : free_node sh book ≡ node
  pub stands : place sh.sizes slot ≡ at

pub links_of : (sh : Layout) (p : Pass) (at node : ℕ) (t : Slot) (f : ℕ → ℕ) (g : ℕ → List Entry → Pass) → Step sh p (link at node) t f g → Links sh p at node
links_of sh p at node t f g (links k b s u held room child stored) =
    record { book_at = k; book = b; spot = s; slot = u; held = held; room = room; child = child; label = stored; own = refl; stands = refl }

pub record Heads (sh : Layout) (p : Pass) (l node d o : ℕ) : Type 0 where
  pub place : ℕ
  pub above : List ℕ
  pub book : Book
  pub flight : Flight
  pub flies : HoldsInFlight p place book flight
  pub whole : IsWhole sh (ticket_of book.writer flight)
  pub fresh : has flight.linked l ≡ false
  pub leads : sh.path flight.row l ≡ Some (d ∷ above)
  pub known : Knows p (spot l above) node
  pub offset : flight.offset ≡ o

pub heads_of : (sh : Layout) (p : Pass) (l node d o : ℕ) (t : Slot) (f : ℕ → ℕ) (g : ℕ → List Entry → Pass) → Step sh p (store_head l node d o) t f g
    → Heads sh p l node d o
heads_of sh p l node d o t f g (heads k m e n q b fl flies whole fresh leads known) =
    record { place = k; above = q; book = b; flight = fl; flies = flies; whole = whole; fresh = fresh; leads = leads; known = known; offset = refl }
