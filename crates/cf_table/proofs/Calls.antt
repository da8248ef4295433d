-- Each step call asks for a lawful step on its word.
use Rattle.std.proofs.Common.{◌≡◌, ℕ, ◌+◌, ◌*◌, ◌<◌, ◌≤◌, zero, suc, List, [], ◌∷◌, length, length-append, get_or, set, slice_get, Some, Bool, refl, sym, ap, subst, ◌∙◌, arith}
use Rattle.cf_row.specs.Row.{RowValue}
use Rattle.cf_row.specs.Words.{word_count}
use Rattle.cf_row.specs.declared.row.Entry.{Entry}
use Rattle.cf_shape.specs.Lanes.{ShapeValue, lane_at}
use Rattle.cf_shape.specs.Uses.{cell_count, cell_words, ticket_words}
use Rattle.cf_shape.specs.Places.{Slot, place, place_of, sizes_of, IsReal, head_slot}
use Rattle.cf_shape.specs.Places.Slot.{cell}
use Rattle.cf_shape.specs.Places.WordName.{done, version, label as label_word}
use Rattle.cf_shape.proofs.Used.{before_fits}
use Rattle.cf_law.specs.Words.{Spot, Layout}
use Rattle.cf_law.specs.Passes.{Book, Pass}
use Rattle.cf_law.specs.Steps.{Step, pass_with_book, pass_with_link, pass_with_child, book_with_node, pass_with_node}
use Rattle.cf_law.specs.Steps.Act.{take_ticket, store_cell, finish_record, look_done, load_word, label, link, store_head, load_child, load_head, load_cell}
use Rattle.cf_law.specs.Steps.Step.{links, loads_child, looks_done, loads_word}
use Rattle.cf_law.specs.Shapes.{layout}
use Rattle.cf_table.specs.Values.{PassValue, book_of, Writes}
use Rattle.cf_table.specs.Effects.{StepEffect, IsLawfulStep, HasStepped, HasSteppedUnseen, take_effect, store_effect, finish_effect, done_effect, word_effect, label_effect, link_effect, head_effect, child_effect, walk_effect, cell_effect}
use Rattle.cf_table.specs.Rule.{StepGiven, AsksOnWord, KeepsBooks, value_after_exchange, given_take}
use Rattle.cf_table.proofs.Allowed.{place_zero, child_exchanged}

abbrev pub given : ShapeValue → StepEffect → StepGiven
given shape w = record { shape = shape; effect = w }

pub calls_done : (shape : ShapeValue) (p : Pass) (o word : ℕ) → o < shape.capacity → word ≡ place_of shape (done o)
    → AsksOnWord shape (given shape (done_effect shape p o)) p word (λ n. n)
calls_done shape p o word lt is = record {
  shape_is = refl;
  asks = record { act = look_done o; lawful = looks_done o (word_count shape.schema + 1 + cell_count shape.lanes) lt (omega arith); real = (lt, omega arith) };
  word_is = is;
  change_is = λ n. refl;
  keeps = λ n es. refl;
}

pub calls_word : (shape : ShapeValue) (p : Pass) (o i word : ℕ) → o < shape.capacity → i < ticket_words shape → o < length p.seen
    → word ≡ place (sizes_of shape) (cell o i) → AsksOnWord shape (given shape (word_effect shape p o i)) p word (λ n. n)
calls_word shape p o i word lt small within is = record {
  shape_is = refl;
  asks = record { act = load_word o i; lawful = loads_word o i within small; real = (lt, small) };
  word_is = is;
  change_is = λ n. refl;
  keeps = λ n es. refl;
}

child_is : (sh : Layout) (p : Pass) (w : ℕ) (t : Slot) (f : ℕ → ℕ) (g : ℕ → List Entry → Pass) → Step sh p (load_child w) t f g → (w ≡ place sh.sizes t)
    × IsReal sh.sizes t
child_is sh p w t f g (loads_child s u child) = (refl, child.real)

child_keeps : (word : ℕ) (s : Spot) (p : Pass) (n : ℕ) → ((pass_with_child word s p n).seen ≡ p.seen) × ((pass_with_child word s p n).books ≡ p.books)
child_keeps word s p zero = (refl, refl)
child_keeps word s p (suc n) = (refl, refl)

pub calls_child : (shape : ShapeValue) (p : Pass) (s : Spot) (t : Slot) (word : ℕ) → IsLawfulStep shape p (load_child word) (child_effect shape p s t)
    → AsksOnWord shape (given shape (child_effect shape p s t)) p word (λ n. n)
calls_child shape p s t word may =
    let is = child_is (layout shape) p word t _ _ may in record {
      shape_is = refl;
      asks = record { act = load_child word; lawful = may; real = is.1 };
      word_is = is.0;
      change_is = λ n. refl;
      keeps = λ n es. (child_keeps (place (sizes_of shape) t) s p n).0;
    }

pub books_child : (shape : ShapeValue) (p : Pass) (s : Spot) (t : Slot) → KeepsBooks (child_effect shape p s t) p
books_child shape p s t n es = (child_keeps (place (sizes_of shape) t) s p n).1

pub head_real : (shape : ShapeValue) (node d w : ℕ) → node < shape.writers * shape.nodes → d < 16 → w < shape.writers
    → IsReal (sizes_of shape) (head_slot (sizes_of shape) node d w)
head_real shape node d w lt dl wl =
    let most : d * shape.writers + w < shape.writers * 16 = Rattle.std.proofs.lemmas.Nat.mul-add-lt d shape.writers w 16 dl wl in (lt, omega (arith, most))

pub calls_walk : (shape : ShapeValue) (p : Pass) (s : Spot) (node d w word : ℕ) → node < shape.writers * shape.nodes → d < 16 → w < shape.writers
    → word ≡ place (sizes_of shape) (head_slot (sizes_of shape) node d w) → IsLawfulStep shape p (load_head node d w) (walk_effect shape p s node d w)
    → AsksOnWord shape (given shape (walk_effect shape p s node d w)) p word (λ n. n)
calls_walk shape p s node d w word lt dl wl is may = record {
  shape_is = refl;
  asks = record { act = load_head node d w; lawful = may; real = head_real shape node d w lt dl wl };
  word_is = is;
  change_is = λ n. refl;
  keeps = λ n es. refl;
}

pub calls_cell : (shape : ShapeValue) (p : Pass) (o l i word : ℕ) → o < shape.capacity → l < length shape.lanes → i < cell_words (lane_at shape l)
    → word ≡ place_of shape (version o l i) → IsLawfulStep shape p (load_cell o l i) (cell_effect shape p o l i)
    → AsksOnWord shape (given shape (cell_effect shape p o l i)) p word (λ n. n)
calls_cell shape p o l i word lt there small is may =
    let fits = before_fits shape.lanes l there in record {
      shape_is = refl;
      asks = record { act = load_cell o l i; lawful = may; real = (lt, omega (arith, fits, small)) };
      word_is = is;
      change_is = λ n. refl;
      keeps = λ n es. refl;
    }

-- A writer's pass.
pub calls_take : (shape : ShapeValue) (p : Pass) (r : RowValue) → IsLawfulStep shape p (take_ticket r) (take_effect shape p r)
    → AsksOnWord shape (given_take shape p r) p 0 (λ n. suc n)
calls_take shape p r may = record {
  shape_is = refl;
  asks = record { act = take_ticket r; lawful = may; real = omega arith };
  word_is = sym (place_zero (sizes_of shape));
  change_is = λ n. refl;
  keeps = λ n es. refl;
}

pub calls_store : (shape : ShapeValue) (p : Pass) (o i value word : ℕ) → o < shape.capacity → i < ticket_words shape
    → word ≡ place (sizes_of shape) (cell o i) → IsLawfulStep shape p (store_cell o i value) (store_effect p o i value)
    → AsksOnWord shape (given shape (store_effect p o i value)) p word (λ n. value)
calls_store shape p o i value word lt small is may = record {
  shape_is = refl;
  asks = record { act = store_cell o i value; lawful = may; real = (lt, small) };
  word_is = is;
  change_is = λ n. refl;
  keeps = λ n es. refl;
}

pub calls_finish : (shape : ShapeValue) (p : Pass) (o word : ℕ) → o < shape.capacity → word ≡ place_of shape (done o)
    → IsLawfulStep shape p (finish_record o) (finish_effect shape p o) → AsksOnWord shape (given shape (finish_effect shape p o)) p word (λ n. 1)
calls_finish shape p o word lt is may = record {
  shape_is = refl;
  asks = record { act = finish_record o; lawful = may; real = (lt, omega arith) };
  word_is = is;
  change_is = λ n. refl;
  keeps = λ n es. refl;
}

pub calls_label : (shape : ShapeValue) (p : Pass) (node value word : ℕ) → node < shape.writers * shape.nodes → word ≡ place_of shape (label_word node)
    → IsLawfulStep shape p (label node value) (label_effect p node value) → AsksOnWord shape (given shape (label_effect p node value)) p word (λ n. value)
calls_label shape p node value word lt is may = record {
  shape_is = refl;
  asks = record { act = label node value; lawful = may; real = (lt, omega arith) };
  word_is = is;
  change_is = λ n. refl;
  keeps = λ n es. refl;
}

link_is : (sh : Layout) (p : Pass) (w node : ℕ) (t : Slot) (f : ℕ → ℕ) (g : ℕ → List Entry → Pass) → Step sh p (link w node) t f g → (w ≡ place sh.sizes t)
    × IsReal sh.sizes t
link_is sh p w node t f g (links k b s u holds room child named) = (refl, child.real)

link_keeps : (k : ℕ) (b : Book) (s : Spot) (node : ℕ) (p : Pass) (n : ℕ) → (pass_with_link k b s node p n).seen ≡ p.seen
link_keeps k b s node p zero = refl
link_keeps k b s node p (suc n) = refl

pub calls_link : (shape : ShapeValue) (p : Pass) (s : Spot) (t : Slot) (node word : ℕ) → IsLawfulStep shape p (link word node) (link_effect p s t node)
    → AsksOnWord shape (given shape (link_effect p s t node)) p word (λ n. value_after_exchange (node + 1) n)
calls_link shape p s t node word may =
    let is = link_is (layout shape) p word node t _ _ may in
    let next : node + 1 ≡ suc node = omega arith in record {
      shape_is = refl;
      asks = record { act = link word node; lawful = may; real = is.1 };
      word_is = is.0;
      change_is = λ n. ap (λ (v : ℕ). value_after_exchange v n) next ∙ child_exchanged node n;
      keeps = λ n es. link_keeps 0 (book_of p) s node p n;
    }

pub calls_head : (shape : ShapeValue) (p : Pass) (l node d o w word : ℕ) → node < shape.writers * shape.nodes → d < 16 → (book_of p).writer < shape.writers
    → w ≡ (book_of p).writer → word ≡ place (sizes_of shape) (head_slot (sizes_of shape) node d w)
    → IsLawfulStep shape p (store_head l node d o) (head_effect shape p l node d o)
    → AsksOnWord shape (given shape (head_effect shape p l node d o)) p word (λ n. o + 1)
calls_head shape p l node d o w word lt dl wl own is may =
    let next : o + 1 ≡ suc o = omega arith in record {
      shape_is = refl;
      asks = record { act = store_head l node d o; lawful = may; real = head_real shape node d (book_of p).writer lt dl wl };
      word_is = is ∙ ap (λ (v : ℕ). place (sizes_of shape) (head_slot (sizes_of shape) node d v)) own;
      change_is = λ n. next;
      keeps = λ n es. refl;
    }

-- A writer's pass keeps its one book.
pub writes_same : (w : ℕ) (over : Bool) (u : ℕ) (p q : Pass) → Writes w over u p.books → q.books ≡ p.books → Writes w over u q.books
writes_same w over u p q W same = record { book = W.book; one = same ∙ W.one; writer_is = W.writer_is; over_is = W.over_is; used_is = W.used_is }

book_is : (w : ℕ) (over : Bool) (u : ℕ) (p : Pass) (W : Writes w over u p.books) → book_of p ≡ W.book
book_is w over u p W = ap (λ (bs : List Book). get_or bs 0 (Rattle.cf_law.specs.Events.no_book 0)) W.one

-- with this book in its place
pub writes_at : (w : ℕ) (over over' : Bool) (u u' : ℕ) (p : Pass) (b : Book) → Writes w over u p.books → b.writer ≡ (book_of p).writer → b.over ≡ over'
    → length b.used ≡ u' → Writes w over' u' (pass_with_book 0 b p).books
writes_at w over over' u u' p b W writer marked used =
    let same = book_is w over u p W in
    record {
      book = b;
      one = ap (λ (bs : List Book). set bs 0 b) W.one;
      writer_is = writer ∙ (ap (λ (c : Book). c.writer) same ∙ W.writer_is);
      over_is = marked;
      used_is = used;
    }

pub writes_kept : (w : ℕ) (over : Bool) (u : ℕ) (p : Pass) (b : Book) → Writes w over u p.books → b.writer ≡ (book_of p).writer → b.over ≡ (book_of p).over
    → b.used ≡ (book_of p).used → Writes w over u (pass_with_book 0 b p).books
writes_kept w over u p b W writer marked used =
    let same = book_is w over u p W in
    writes_at w over over u u p b W writer (marked ∙ (ap (λ (c : Book). c.over) same ∙ W.over_is))
    (ap (λ (xs : List Spot). length xs) (used ∙ ap (λ (c : Book). c.used) same) ∙ W.used_is)

abbrev pub Holding : ℕ → Bool → ℕ → PassValue → Type 0
Holding w over u h = Writes w over u (h.view).books × (w < 16) × (u ≤ h.nodes) × (h.nodes ≤ 65536)

holding : (w : ℕ) (over over' : Bool) (u u' : ℕ) (m n : PassValue) → Holding w over u m → n ≡ record m { view = n.view } → Writes w over' u' (n.view).books
    → u' ≤ m.nodes → Holding w over' u' n
holding w over over' u u' m n H same W le =
    let nodes : n.nodes ≡ m.nodes = ap (λ (h : PassValue). h.nodes) same in (W, H.1, omega (arith, nodes), (let few = H.3 in omega (arith, nodes)))

-- a store in the book, with writer, mark and used nodes as they were
pub kept_by : (shape : ShapeValue) (way : StepEffect) (w : ℕ) (over : Bool) (u : ℕ) (b : Book) (m n : PassValue) → Holding w over u m
    → HasSteppedUnseen shape way m n → ((found : ℕ) (es : List Entry) → way.after found es ≡ pass_with_book 0 b m.view)
    → b.writer ≡ (book_of m.view).writer → b.over ≡ (book_of m.view).over → b.used ≡ (book_of m.view).used → Holding w over u n
kept_by shape way w over u b m n H made after writer marked used =
    let told = made.made.told in
    let is : n.view ≡ pass_with_book 0 b m.view = told.is ∙ after made.found told.entries in
    holding w over over u u m n H made.made.same
    (subst (λ (q : Pass). Writes w over u q.books) (sym is) (writes_kept w over u m.view b H.0 writer marked used)) H.2

only_book : (b c : Book) (k : ℕ) → slice_get (b ∷ []) k ≡ Some c → b ≡ c
only_book b c zero h = cc h
only_book b c (suc k) h = absurd (cc h)

link_room : (sh : Layout) (p : Pass) (w node : ℕ) (t : Slot) (f : ℕ → ℕ) (g : ℕ → List Entry → Pass) → Step sh p (link w node) t f g → (k : ℕ) × (b : Book)
    × (slice_get p.books k ≡ Some b) × (length b.used < sh.sizes.nodes)
link_room sh p w node t f g (links k b s u holds room child named) = (k, b, holds, room)

pub link_low : (shape : ShapeValue) (w : ℕ) (over : Bool) (u : ℕ) (p : Pass) (s : Spot) (t : Slot) (word node : ℕ) → Writes w over u p.books
    → IsLawfulStep shape p (link word node) (link_effect p s t node) → u < shape.nodes
link_low shape w over u p s t word node W may =
    let room = link_room (layout shape) p word node t _ _ may in
    let same : W.book ≡ room.1 = only_book W.book room.1 room.0 (ap (λ (bs : List Book). slice_get bs room.0) (sym W.one) ∙ room.2) in
    omega (arith, W.used_is, ap (λ (b : Book). length b.used) same, room.3)

-- a link that found 0: one node more is used
pub linked_by : (shape : ShapeValue) (w : ℕ) (over : Bool) (u : ℕ) (m n : PassValue) (s : Spot) (t : Slot) (word node found : ℕ) → Holding w over u m
    → u < m.nodes → HasStepped shape (link_effect m.view s t node) m found n → found ≡ 0 → Holding w over (u + 1) n
linked_by shape w over u m n s t word node found H room made none =
    let p = m.view in
    let is : n.view ≡ pass_with_link 0 (book_of p) s node p 0 = made.told.is ∙ ap (pass_with_link 0 (book_of p) s node p) none in
    let same = book_is w over u p H.0 in
    let used : length (book_with_node s (book_of p)).used ≡ u + 1 = length-append (book_of p).used (s ∷ [])
    ∙ (let e = ap (λ (c : Book). length c.used) same ∙ (H.0).used_is in omega (arith, e)) in
    holding w over over u (u + 1) m n H made.same
    (subst (λ (q : Pass). Writes w over (u + 1) q.books) (sym is)
    (writes_at w over over u (u + 1) (pass_with_node s node p) (book_with_node s (book_of p))
    (writes_same w over u p (pass_with_node s node p) H.0 refl) refl (ap (λ (c : Book). c.over) same ∙ (H.0).over_is) used))
    (omega arith)

-- a link that found another node
pub lost_by : (shape : ShapeValue) (w : ℕ) (over : Bool) (u : ℕ) (m n : PassValue) (s : Spot) (t : Slot) (node found : ℕ) → Holding w over u m
    → HasStepped shape (link_effect m.view s t node) m found n → (found ≡ 0 → ⊥) → Holding w over u n
lost_by shape w over u m n s t node zero H made some = absurd (some refl)
lost_by shape w over u m n s t node (suc found) H made some =
    holding w over over u u m n H made.same
    (subst (λ (q : Pass). Writes w over u q.books) (sym made.told.is) (writes_same w over u m.view (pass_with_node s found m.view) H.0 refl)) H.2
