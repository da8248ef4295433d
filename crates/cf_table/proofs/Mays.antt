-- When a pass may make a step, in the terms of its one book. Callers build what a step call asks for by these.
use Rattle.std.proofs.Common.{◌≡◌, ℕ, ◌+◌, ◌<◌, ◌⊎◌, suc, List, [], ◌∷◌, length, get_or, Some, None, slice_get, true, false, sym, ap, subst, ◌∙◌, arith}
use Rattle.cf_row.specs.Row.{RowValue}
use Rattle.cf_row.specs.Words.{word_count}
use Rattle.cf_shape.specs.Lanes.{ShapeValue, lane_at}
use Rattle.cf_shape.specs.Uses.{cell_count, cells_before, cell_words}
use Rattle.cf_shape.specs.Places.{Slot, place, sizes_of, head_slot}
use Rattle.cf_shape.specs.Places.Slot.{tail, cell, body}
use Rattle.cf_shape.proofs.Used.{before_fits, version_at}
use Rattle.cf_law.specs.Words.{Spot, spot, has}
use Rattle.cf_law.specs.Law.{IsWhole}
use Rattle.cf_law.specs.Passes.{Book, Flight, Pass}
use Rattle.cf_law.specs.Steps.{Step, IsChild, IsNext, IsOwn, IsNamed, Knows, ticket_of, own_word, book_with_ticket, book_with_word, book_with_record, book_with_label, book_with_head, pass_with_book, pass_with_link, free_node, label_of, child_word}
use Rattle.cf_law.specs.Steps.Act.{take_ticket, store_cell, finish_record, label, link, store_head, load_child, load_head, load_cell}
use Rattle.cf_law.specs.Steps.Step.{takes, stores, finishes, labels, links, heads, loads_child, loads_head, loads_cell}
use Rattle.cf_law.specs.Events.{no_book}
use Rattle.cf_law.specs.Shapes.{layout}
use Rattle.cf_table.specs.Values.{book_of, flight_of, flight_or}
use Rattle.cf_table.specs.Effects.{IsLawfulStep, take_effect, store_effect, finish_effect, label_effect, link_effect, head_effect, child_effect, walk_effect, cell_effect}

-- a pass with one book
pub the_book : (p : Pass) (b : Book) → p.books ≡ b ∷ [] → book_of p ≡ b
the_book p b one = ap (λ (bs : List Book). get_or bs 0 (no_book 0)) one

pub the_flight : (p : Pass) (b : Book) (f : Flight) → p.books ≡ b ∷ [] → b.flight ≡ Some f → flight_of p ≡ f
the_flight p b f one flies = ap (λ (c : Book). flight_or c.flight) (the_book p b one) ∙ ap flight_or flies

holds_one : (p : Pass) (b : Book) → p.books ≡ b ∷ [] → slice_get p.books 0 ≡ Some b
holds_one p b one = ap (λ (bs : List Book). slice_get bs 0) one

pub may_take : (shape : ShapeValue) (p : Pass) (r : RowValue) (b : Book) → (layout shape).fits r ≡ true → p.books ≡ b ∷ [] → b.over ≡ false → b.flight ≡ None
    → IsLawfulStep shape p (take_ticket r) (take_effect shape p r)
may_take shape p r b fits one fresh rests =
    subst (λ (c : Book). Step (layout shape) p (take_ticket r) (tail 0) (λ n. suc n) (λ n es. record p { books = book_with_ticket (layout shape) r n c ∷ [] }))
    (sym (the_book p b one)) (takes r b fits one fresh rests)

pub may_store : (shape : ShapeValue) (p : Pass) (b : Book) (f : Flight) (o i value : ℕ) → p.books ≡ b ∷ [] → b.flight ≡ Some f → o ≡ f.offset
    → IsNext (layout shape) (ticket_of b.writer f) i → value ≡ own_word (layout shape) b f.row ((layout shape).use_of i)
    → IsLawfulStep shape p (store_cell o i value) (store_effect p o i value)
may_store shape p b f o i value one flies at next is =
    let sh = layout shape in
    let first : Step sh p (store_cell f.offset i (own_word sh b f.row (sh.use_of i))) (cell f.offset i) (λ n. own_word sh b f.row (sh.use_of i))
    (λ n es. pass_with_book 0 (book_with_word i b f) p) = stores 0 i b f (holds_one p b one, flies) next in
    let second = subst (λ (v : ℕ). Step sh p (store_cell f.offset i v) (cell f.offset i) (λ n. v) (λ n es. pass_with_book 0 (book_with_word i b f) p))
    (sym is) first in
    let third = subst (λ (k : ℕ). Step sh p (store_cell k i value) (cell k i) (λ n. value) (λ n es. pass_with_book 0 (book_with_word i b f) p))
    (sym at) second in
    let fourth = subst (λ (c : Book). Step sh p (store_cell o i value) (cell o i) (λ n. value) (λ n es. pass_with_book 0 (book_with_word i c f) p))
    (sym (the_book p b one)) third in
    subst (λ (g : Flight). Step sh p (store_cell o i value) (cell o i) (λ n. value) (λ n es. pass_with_book 0 (book_with_word i (book_of p) g) p))
    (sym (the_flight p b f one flies)) fourth

pub may_finish : (shape : ShapeValue) (p : Pass) (b : Book) (f : Flight) (o : ℕ) → p.books ≡ b ∷ [] → b.flight ≡ Some f → o ≡ f.offset
    → IsWhole (layout shape) (ticket_of b.writer f)
    → ((l : ℕ) (q : List ℕ) → (layout shape).path f.row l ≡ Some q → has f.linked l ≡ true) → IsLawfulStep shape p (finish_record o) (finish_effect shape p o)
may_finish shape p b f o one flies at whole linked =
    let sh = layout shape in
    let i = word_count shape.schema + 1 + cell_count shape.lanes in
    let first : Step sh p (finish_record f.offset) (cell f.offset i) (λ n. 1) (λ n es. pass_with_book 0 (book_with_record b f) p) =
    finishes 0 i b f (holds_one p b one, flies) (omega arith) whole linked in
    let second = subst (λ (k : ℕ). Step sh p (finish_record k) (cell k i) (λ n. 1) (λ n es. pass_with_book 0 (book_with_record b f) p)) (sym at) first in
    let third = subst (λ (c : Book). Step sh p (finish_record o) (cell o i) (λ n. 1) (λ n es. pass_with_book 0 (book_with_record c f) p))
    (sym (the_book p b one)) second in
    subst (λ (g : Flight). Step sh p (finish_record o) (cell o i) (λ n. 1) (λ n es. pass_with_book 0 (book_with_record (book_of p) g) p))
    (sym (the_flight p b f one flies)) third

pub may_label : (shape : ShapeValue) (p : Pass) (b : Book) (s : Spot) (t : Slot) (node value : ℕ) → p.books ≡ b ∷ [] → length b.used < shape.nodes
    → IsChild (layout shape) p s t → node ≡ free_node (layout shape) b → value ≡ label_of (layout shape) s t
    → IsLawfulStep shape p (label node value) (label_effect p node value)
may_label shape p b s t node value one room child is at =
    let sh = layout shape in
    let first : Step sh p (label (free_node sh b) (label_of sh s t)) (body (free_node sh b) 0) (λ n. label_of sh s t)
    (λ n es. pass_with_book 0 (book_with_label (label_of sh s t) b) p) = labels 0 b s t (holds_one p b one) room child in
    let second = subst
    (λ (k : ℕ). Step sh p (label k (label_of sh s t)) (body k 0) (λ n. label_of sh s t) (λ n es. pass_with_book 0 (book_with_label (label_of sh s t) b) p))
    (sym is) first in
    let third = subst (λ (v : ℕ). Step sh p (label node v) (body node 0) (λ n. v) (λ n es. pass_with_book 0 (book_with_label v b) p)) (sym at) second in
    subst (λ (c : Book). Step sh p (label node value) (body node 0) (λ n. value) (λ n es. pass_with_book 0 (book_with_label value c) p))
    (sym (the_book p b one)) third

pub may_link : (shape : ShapeValue) (p : Pass) (b : Book) (s : Spot) (t : Slot) (word node : ℕ) → p.books ≡ b ∷ [] → length b.used < shape.nodes
    → IsChild (layout shape) p s t → b.label ≡ label_of (layout shape) s t → word ≡ place (sizes_of shape) t → node ≡ free_node (layout shape) b
    → IsLawfulStep shape p (link word node) (link_effect p s t node)
may_link shape p b s t word node one room child labelled_as at is =
    let sh = layout shape in
    let first : Step sh p (link (place (sizes_of shape) t) (free_node sh b)) t (λ n. child_word (free_node sh b) n)
    (λ n es. pass_with_link 0 b s (free_node sh b) p n) = links 0 b s t (holds_one p b one) room child labelled_as in
    let second = subst
    (λ (w : ℕ). Step sh p (link w (free_node sh b)) t (λ n. child_word (free_node sh b) n) (λ n es. pass_with_link 0 b s (free_node sh b) p n))
    (sym at) first in
    let third = subst (λ (k : ℕ). Step sh p (link word k) t (λ n. child_word k n) (λ n es. pass_with_link 0 b s k p n)) (sym is) second in
    subst (λ (c : Book). Step sh p (link word node) t (λ n. child_word node n) (λ n es. pass_with_link 0 c s node p n)) (sym (the_book p b one)) third

pub may_head : (shape : ShapeValue) (p : Pass) (b : Book) (f : Flight) (l node d o : ℕ) (q : List ℕ) → p.books ≡ b ∷ [] → b.flight ≡ Some f → o ≡ f.offset
    → IsWhole (layout shape) (ticket_of b.writer f) → has f.linked l ≡ false
    → (layout shape).path f.row l ≡ Some (d ∷ q) → Knows p (spot l q) node → IsLawfulStep shape p (store_head l node d o) (head_effect shape p l node d o)
may_head shape p b f l node d o q one flies at whole fresh leads leaf =
    let sh = layout shape in
    let g = sizes_of shape in
    let first : Step sh p (store_head l node d f.offset) (head_slot g node d b.writer) (λ n. suc f.offset)
    (λ n es. pass_with_book 0 (book_with_head l b f) p) = heads 0 l d node q b f (holds_one p b one, flies) whole fresh leads leaf in
    let second = subst
    (λ (k : ℕ). Step sh p (store_head l node d k) (head_slot g node d b.writer) (λ n. suc k) (λ n es. pass_with_book 0 (book_with_head l b f) p))
    (sym at) first in
    let third = subst
    (λ (c : Book). Step sh p (store_head l node d o) (head_slot g node d c.writer) (λ n. suc o) (λ n es. pass_with_book 0 (book_with_head l c f) p))
    (sym (the_book p b one)) second in
    subst (λ (h : Flight). Step sh p (store_head l node d o) (head_slot g node d (book_of p).writer) (λ n. suc o)
    (λ n es. pass_with_book 0 (book_with_head l (book_of p) h) p)) (sym (the_flight p b f one flies)) third

pub may_child : (shape : ShapeValue) (p : Pass) (s : Spot) (t : Slot) (word : ℕ) → word ≡ place (sizes_of shape) t → IsChild (layout shape) p s t
    → IsLawfulStep shape p (load_child word) (child_effect shape p s t)
may_child shape p s t word at child =
    subst (λ (w : ℕ). IsLawfulStep shape p (load_child w) (child_effect shape p s t)) (sym at) (loads_child s t child)

pub may_walk : (shape : ShapeValue) (p : Pass) (l : ℕ) (q : List ℕ) (node d w : ℕ) → Knows p (spot l q) node → suc (length q) ≡ (layout shape).levels l
    → d < 16 → w < shape.writers → IsLawfulStep shape p (load_head node d w) (walk_effect shape p (spot l q) node d w)
may_walk shape p l q node d w leaf last dl wl = loads_head node d w l q leaf last dl wl

pub may_cell : (shape : ShapeValue) (p : Pass) (o l i : ℕ) → o < shape.capacity → l < length shape.lanes → i < cell_words (lane_at shape l) → IsOwn p o
    ⊎ ((o < length p.seen) ⊎ IsNamed p o l) → IsLawfulStep shape p (load_cell o l i) (cell_effect shape p o l i)
may_cell shape p o l i lt there small may =
    let fits = before_fits shape.lanes l there in
    loads_cell o l i (word_count shape.schema + 1 + cells_before shape l + i) lt (version_at shape l i there small) (omega (arith, fits, small)) may
