-- The cells and heads of a record in flight.
use Rattle.std.proofs.Common.{◌≡◌, ℕ, ◌+◌, ◌-◌, ◌*◌, ◌^◌, ◌<◌, ◌≤◌, ◌==◌, zero, suc, inl, inr, List, [], ◌∷◌, length, take, set, get_or, Bool, true, false, cond, Option, Some, None, slice_get, refl, ap, sym, subst, ◌∙◌, arith}
use Rattle.std.proofs.lemmas.Bool.{cases_lt, cases_eq, cases_Bool}
use Rattle.std.proofs.lemmas.Bool.Decides.{nat_tests}
use Rattle.cf_row.specs.Row.{RowValue}
use Rattle.cf_row.specs.Words.{word_count}
use Rattle.cf_shape.specs.declared.lane.Lane.{Lane}
use Rattle.cf_shape.specs.Lanes.{ShapeValue, IsShape, no_lane, lane_at, key_of, selected_by}
use Rattle.cf_shape.specs.Nodes.{levels_of}
use Rattle.cf_shape.specs.Uses.{Use, use_at, cell_words, cell_count, ticket_words, is_measured}
use Rattle.cf_shape.specs.Uses.Use.{version}
use Rattle.cf_shape.specs.Places.{sizes_of, head_slot}
use Rattle.cf_shape.proofs.Counts.{count_cons, count_none}
use Rattle.cf_shape.proofs.Used.{version_at, before_fits}
use Rattle.cf_law.specs.Words.{Spot, spot, fresh_ticket, has, same_path, version_word, link_to_newest}
use Rattle.cf_law.specs.Law.{IsWhole, Skips}
use Rattle.cf_law.specs.Passes.{Own, Book, Flight, Pass}
use Rattle.cf_law.specs.Steps.{Knows, IsNext, ticket_of, book_with_flight, book_with_head, book_with_record, own_word, own_lane_word, mine_chain}
use Rattle.cf_law.specs.Steps.Act.{store_cell, store_head, finish_record}
use Rattle.cf_law.specs.Readers.{own_top}
use Rattle.cf_law.specs.Events.{no_book}
use Rattle.cf_law.specs.Shapes.{layout, path_in}
use Rattle.cf_law.proofs.Shapes.{layout_law, three_words}
use Rattle.cf_table.specs.Values.{PassValue, book_of, flight_or}
use Rattle.cf_table.specs.Effects.{IsLawfulStep, HasStepped, HasSteppedUnseen, store_effect, walk_effect, head_effect, finish_effect}
use Rattle.cf_table.proofs.Mays.{the_book, may_store, may_head, may_finish}
use Rattle.cf_append.specs.Appends.{with_own}
use Rattle.cf_append.specs.Paths.{KeepsSeen, IsFiledIn}
use Rattle.cf_append.specs.declared.paths.Filing.{Filing}
use Rattle.cf_append.specs.Linking.{HasFilled, HasLinked, IsBookOf, IsPassedOver, with_flight, cell_from, key_path, leaf_chain, row_chain, linked_to}
use Rattle.cf_append.proofs.Walking.{strides_by}
use Rattle.cf_append.proofs.Pathing.{filed_some}
use Rattle.cf_law.proofs.Paths.{path_none, skips_any, some_path}

-- Where the cells stand.
count_more : (xs : List Lane) (l : ℕ) → l < length xs → cell_count (take (suc l) xs) ≡ cell_count (take l xs) + cell_words (get_or xs l no_lane)
count_more [] l lt = absurd (omega (arith, lt))
count_more (x ∷ xs) zero lt = omega (arith, count_cons x [], count_none)
count_more (x ∷ xs) (suc l) lt = omega (arith, count_cons x (take (suc l) xs), count_cons x (take l xs), count_more xs l (omega (arith, lt)))

pub cell_first : (s : ShapeValue) → cell_from s 0 ≡ word_count s.schema + 1
cell_first s = omega (arith, count_none)

pub cell_next : (s : ShapeValue) (l : ℕ) → l < length s.lanes → cell_from s (l + 1) ≡ cell_from s l + cell_words (lane_at s l)
cell_next s l lt =
    let e : l + 1 ≡ suc l = omega arith in
    let f = ap (λ (k : ℕ). cell_count (take k s.lanes)) e in
    omega (arith, f, count_more s.lanes l lt)

pub cell_one : (s : ShapeValue) (l : ℕ) → is_measured s l ≡ false → cell_words (lane_at s l) ≡ 1
cell_one s l bare = ap (λ (b : Bool). cond {A = ℕ} b 3 1) bare

pub cell_low : (s : ShapeValue) (l : ℕ) → l < length s.lanes → cell_from s l + cell_words (lane_at s l) < ticket_words s
cell_low s l lt = omega (arith, before_fits s.lanes l lt)

passed_here : (s : ShapeValue) (row : RowValue) (l k : ℕ) → l < length s.lanes → path_in s row l ≡ None → cell_from s l ≤ k → k < cell_from s (l + 1)
    → IsPassedOver s row k
passed_here s row l k there none ge lt =
    let j : ℕ = k - cell_from s l in
    let at : cell_from s l + j ≡ k = omega (arith, ge) in
    let low : j < cell_words (lane_at s l) = omega (arith, ge, lt, cell_next s l there) in
    subst (λ (i : ℕ). IsPassedOver s row i) at (subst (λ (u : Use). Skips (layout s) (fresh_ticket 0 row) u) (sym (version_at s l j there low)) none)

pub filled_skip : (s : ShapeValue) (o : ℕ) (row : RowValue) (l : ℕ) (m n : PassValue) → l < length s.lanes → selected_by s l row ≡ false
    → HasFilled s o row (cell_from s l) m n → HasFilled s o row (cell_from s (l + 1)) m n
filled_skip s o row l m n there passes F =
    let from = F.from in record {
      filled = F.filled;
      books = F.books;
      from = omega (arith, from, cell_next s l there);
      passed = λ k ge lt. elim (cases_lt k (cell_from s l)) [
        | inl low ↦ F.passed k ge low
        | inr high ↦ passed_here s row l k there (path_none s row l passes) high lt
      ];
    }

-- Two parts of the filling.
pub filled_self : (s : ShapeValue) (o : ℕ) (row : RowValue) (k : ℕ) (m n : PassValue) → HasFilled s o row k m n → HasFilled s o row k n n
filled_self s o row k m n F = record {
  filled = F.filled;
  books = F.books ∙ ap (λ (b : Book). with_flight o row F.filled [] b ∷ []) (sym (the_book n.view (with_flight o row F.filled [] (book_of m.view)) F.books));
  from = F.from;
  passed = F.passed;
}

pub filled_then : (s : ShapeValue) (o : ℕ) (row : RowValue) (j k : ℕ) (m n z : PassValue) → HasFilled s o row j m n → HasFilled s o row k n z
    → HasFilled s o row k m z
filled_then s o row j k m n z F G = record {
  filled = G.filled;
  books = G.books ∙ ap (λ (b : Book). with_flight o row G.filled [] b ∷ []) (the_book n.view (with_flight o row F.filled [] (book_of m.view)) F.books);
  from = G.from;
  passed = G.passed;
}

pub filled_at : (s : ShapeValue) (o : ℕ) (row : RowValue) (j k : ℕ) (m n : PassValue) → j ≡ k → HasFilled s o row j m n → HasFilled s o row k m n
filled_at s o row j k m n e F = subst (λ (i : ℕ). HasFilled s o row i m n) e F

pub filled_writer : (s : ShapeValue) (o : ℕ) (row : RowValue) (k : ℕ) (m n : PassValue) → HasFilled s o row k m n
    → (book_of n.view).writer ≡ (book_of m.view).writer
filled_writer s o row k m n F = ap (λ (b : Book). b.writer) (the_book n.view (with_flight o row F.filled [] (book_of m.view)) F.books)

pub walk_own : (shape : ShapeValue) (m n : PassValue) (s : Spot) (node d w found : ℕ) → HasStepped shape (walk_effect shape m.view s node d w) m found n
    → (m.view).books ≡ book_of m.view ∷ [] → w ≡ (book_of m.view).writer
    → Knows m.view s node → suc (length s.path) ≡ levels_of shape s.lane → d < 16 → found ≡ own_top (layout shape) (book_of m.view) (spot s.lane (d ∷ s.path))
walk_own shape m n s node d w found made one own knows level dl =
    made.told.tells.own 0 node d s.lane s.path (book_of m.view) (ap (λ (v : ℕ). head_slot (sizes_of shape) node d v) own)
    (ap (λ (bs : List Book). slice_get bs 0) one) knows level dl

has_nothing : (l : ℕ) → has [] l ≡ false
unfolding has
has_nothing l = refl

own_plain_top : (shape : ShapeValue) (b : Book) (o : ℕ) (row : RowValue) (filled : ℕ) (s : Spot)
    → own_top (layout shape) (with_flight o row filled [] b) s ≡ link_to_newest (mine_chain (layout shape) s b.mine)
own_plain_top shape b o row filled s =
    ap (λ (linked : Bool). cond {A = ℕ} (cond {A = Bool} linked (same_path (path_in shape row s.lane) s.path) false) (suc o)
    (link_to_newest (mine_chain (layout shape) s b.mine))) (has_nothing s.lane)

plain_version : (shape : ShapeValue) (l : ℕ) (c : List (ℕ × RowValue)) (row : RowValue) → is_measured shape l ≡ false
    → version_word (layout shape) l 0 c row ≡ link_to_newest c
unfolding version_word
plain_version shape l c row bare = ap (λ (b : Bool). link_to_newest c + 2 ^ 32 * cond {A = ℕ} b (length c + 1) 0) bare ∙ omega arith

-- A cell is stored.
abbrev pub flight_at : ℕ → RowValue → ℕ → List ℕ → Flight
flight_at o row filled linked = record { offset = o; row = row; filled = filled; linked = linked }

cell_use : (s : ShapeValue) (l i : ℕ) → l < length s.lanes → is_measured s l ≡ false → i ≡ cell_from s l → use_at s i ≡ version l 0
cell_use s l i there bare at =
    let e : i ≡ cell_from s l + 0 = omega (arith, at) in
    ap (use_at s) e ∙ version_at s l 0 there (omega (arith, cell_one s l bare))

pub may_version : (shape : ShapeValue) (m n : PassValue) (o l i value : ℕ) (row : RowValue) (q : List ℕ) → HasFilled shape o row (cell_from shape l) m m
    → (n.view).books ≡ (m.view).books → l < length shape.lanes → is_measured shape l ≡ false → i ≡ cell_from shape l
    → path_in shape row l ≡ Some q → value ≡ own_top (layout shape) (book_of m.view) (spot l q)
    → IsLawfulStep shape n.view (store_cell o i value) (store_effect n.view o i value)
may_version shape m n o l i value row q F kept there bare at leads is =
    let sh = layout shape in
    let b : Book = with_flight o row F.filled [] (book_of m.view) in
    let f : Flight = flight_at o row F.filled [] in
    let t = ticket_of b.writer f in
    let from = F.from in
    let stands = cell_use shape l i there bare at in
    let next : IsNext sh t i = record {
      from = omega (arith, from, at);
      skipped = λ k ge lt. skips_any sh (fresh_ticket 0 row) t (use_at shape k) refl (F.passed k ge (omega (arith, lt, at)));
      wanted = subst (λ (u : Use). Skips sh t u → ⊥) (sym stands) (λ none. absurd (let e : Some q ≡ None = sym leads ∙ none in cc e));
      within = omega (arith, at, cell_low shape l there, cell_one shape l bare);
    } in
    may_store shape n.view b f o i value (kept ∙ F.books) refl refl next
    (is ∙ (ap (λ (c : Book). own_top sh c (spot l q)) (the_book m.view b F.books)
    ∙ (own_plain_top shape (book_of m.view) o row F.filled (spot l q)
    ∙ (sym (plain_version shape l (mine_chain sh (spot l q) (book_of m.view).mine) row bare)
    ∙ (ap (λ (p : Option (List ℕ)). own_lane_word sh b row l 0 p) (sym leads) ∙ ap (λ (u : Use). own_word sh b row u) (sym stands))))))

pub store_strides : (shape : ShapeValue) (m n : PassValue) (o i value : ℕ) → HasSteppedUnseen shape (store_effect m.view o i value) m n → KeepsSeen m n
store_strides shape m n o i value stored =
    strides_by m n ((store_effect m.view o i value).after 0 []) stored.made.same stored.made.told.is refl refl refl (λ r k h. h) (omega arith)

pub filled_more : (shape : ShapeValue) (m n z : PassValue) (o l i value : ℕ) (row : RowValue) → HasFilled shape o row (cell_from shape l) m m
    → (n.view).books ≡ (m.view).books → l < length shape.lanes → is_measured shape l ≡ false → i ≡ cell_from shape l
    → HasSteppedUnseen shape (store_effect n.view o i value) n z → HasFilled shape o row (cell_from shape (l + 1)) m z
filled_more shape m n z o l i value row F kept there bare at stored =
    let b : Book = with_flight o row F.filled [] (book_of m.view) in
    let next : cell_from shape (l + 1) ≡ suc i = omega (arith, at, cell_next shape l there, cell_one shape l bare) in record {
      filled = suc i;
      books = ap (λ (p : Pass). p.books) stored.made.told.is
          ∙ ap (λ (bs : List Book). set bs 0
          (book_with_flight (get_or bs 0 (no_book 0)) (record (flight_or (get_or bs 0 (no_book 0)).flight) { filled = suc i }))) (kept ∙ F.books);
      from = omega (arith, next);
      passed = λ k ge lt. absurd (omega (arith, ge, lt, next));
    }

-- The lanes in which a record is linked.
linked_none : (s : ShapeValue) (row : RowValue) → linked_to s row 0 ≡ []
unfolding linked_to
linked_none s row = refl

linked_if : (s : ShapeValue) (row : RowValue) (l : ℕ) → linked_to s row (suc l) ≡ cond (selected_by s l row) (l ∷ linked_to s row l) (linked_to s row l)
unfolding linked_to
linked_if s row l = refl

linked_one : (s : ShapeValue) (row : RowValue) (l : ℕ) → selected_by s l row ≡ true → linked_to s row (suc l) ≡ l ∷ linked_to s row l
linked_one s row l takes = linked_if s row l ∙ ap (λ (b : Bool). cond b (l ∷ linked_to s row l) (linked_to s row l)) takes

linked_same : (s : ShapeValue) (row : RowValue) (l : ℕ) → selected_by s l row ≡ false → linked_to s row (suc l) ≡ linked_to s row l
linked_same s row l passes = linked_if s row l ∙ ap (λ (b : Bool). cond b (l ∷ linked_to s row l) (linked_to s row l)) passes

has_first : (x : ℕ) (xs : List ℕ) (l : ℕ) → has (x ∷ xs) l ≡ cond (x == l) true (has xs l)
unfolding has
has_first x xs l = refl

not_linked : (s : ShapeValue) (row : RowValue) (n l : ℕ) → n ≤ l → has (linked_to s row n) l ≡ false
not_linked s row zero l le = ap (λ (ls : List ℕ). has ls l) (linked_none s row) ∙ has_nothing l
not_linked s row (suc n) l le = elim (cases_Bool (selected_by s n row)) [
  | inl takes ↦
      let other : (n == l) ≡ false = grind (arith, nat_tests) in
      ap (λ (ls : List ℕ). has ls l) (linked_one s row n takes)
      ∙ (has_first n (linked_to s row n) l ∙ (ap (λ (b : Bool). cond b true (has (linked_to s row n) l)) other ∙ not_linked s row n l (omega (arith, le))))
  | inr passes ↦ ap (λ (ls : List ℕ). has ls l) (linked_same s row n passes) ∙ not_linked s row n l (omega (arith, le))
]

is_linked : (s : ShapeValue) (row : RowValue) (n l : ℕ) → l < n → selected_by s l row ≡ true → has (linked_to s row n) l ≡ true
is_linked s row zero l lt takes = absurd (omega (arith, lt))
is_linked s row (suc n) l lt takes = elim (cases_eq l n) [
  | inl same ↦
      let self : (n == l) ≡ true = grind (arith, nat_tests) in
      let there : selected_by s n row ≡ true = ap (λ (k : ℕ). selected_by s k row) (sym same) ∙ takes in
      ap (λ (ls : List ℕ). has ls l) (linked_one s row n there)
      ∙ (has_first n (linked_to s row n) l ∙ ap (λ (b : Bool). cond b true (has (linked_to s row n) l)) self)
  | inr other ↦
      let before = is_linked s row n l (omega (arith, lt, other)) takes in
      elim (cases_Bool (selected_by s n row)) [
        | inl one ↦
            let apart : (n == l) ≡ false = grind (arith, nat_tests) in
            ap (λ (ls : List ℕ). has ls l) (linked_one s row n one)
            ∙ (has_first n (linked_to s row n) l ∙ (ap (λ (b : Bool). cond b true (has (linked_to s row n) l)) apart ∙ before))
        | inr passes ↦ ap (λ (ls : List ℕ). has ls l) (linked_same s row n passes) ∙ before
      ]
]

-- A head is stored.
whole_ticket : (shape : ShapeValue) (o : ℕ) (row : RowValue) (filled : ℕ) (linked : List ℕ) (w : ℕ)
    → ((i : ℕ) → filled ≤ i → suc i < ticket_words shape → IsPassedOver shape row i) → IsWhole (layout shape) (ticket_of w (flight_at o row filled linked))
whole_ticket shape o row filled linked w whole k ge lt =
    skips_any (layout shape) (fresh_ticket 0 row) (ticket_of w (flight_at o row filled linked)) (use_at shape k) refl (whole k ge lt)

pub linked_begin : (shape : ShapeValue) (o : ℕ) (row : RowValue) (m n : PassValue)
    → HasFilled shape o row (word_count shape.schema + 1 + cell_count shape.lanes) m n → HasLinked shape o row 0 m n
linked_begin shape o row m n F = record {
  filled = F.filled;
  books = F.books ∙ ap (λ (ls : List ℕ). with_flight o row F.filled ls (book_of m.view) ∷ []) (sym (linked_none shape row));
  whole = λ i ge lt. F.passed i ge (omega (arith, lt));
}

pub may_top : (shape : ShapeValue) (m : PassValue) (o l node d : ℕ) (row : RowValue) (q : List ℕ) → HasLinked shape o row l m m
    → path_in shape row l ≡ Some (d ∷ q) → Knows m.view (spot l q) node
    → IsLawfulStep shape m.view (store_head l node d o) (head_effect shape m.view l node d o)
may_top shape m o l node d row q L leads knows =
    let b : Book = with_flight o row L.filled (linked_to shape row l) (book_of m.view) in
    may_head shape m.view b (flight_at o row L.filled (linked_to shape row l)) l node d o q L.books refl refl
    (whole_ticket shape o row L.filled (linked_to shape row l) b.writer L.whole) (not_linked shape row l l (omega arith)) leads knows

one_more : (l : ℕ) → suc l ≡ l + 1
one_more l = omega arith

pub linked_more : (shape : ShapeValue) (m n : PassValue) (o l node d : ℕ) (row : RowValue) → HasLinked shape o row l m m → selected_by shape l row ≡ true
    → HasSteppedUnseen shape (head_effect shape m.view l node d o) m n → HasLinked shape o row (l + 1) m n
linked_more shape m n o l node d row L takes stored = record {
  filled = L.filled;
  books = ap (λ (p : Pass). p.books) stored.made.told.is
      ∙ (ap (λ (bs : List Book). set bs 0 (book_with_head l (get_or bs 0 (no_book 0)) (flight_or (get_or bs 0 (no_book 0)).flight))) L.books
      ∙ (ap (λ (ls : List ℕ). with_flight o row L.filled ls (book_of m.view) ∷ []) (sym (linked_one shape row l takes))
      ∙ ap (λ (k : ℕ). with_flight o row L.filled (linked_to shape row k) (book_of m.view) ∷ []) (one_more l)));
  whole = L.whole;
}

pub linked_skip : (shape : ShapeValue) (m n : PassValue) (o l : ℕ) (row : RowValue) → HasLinked shape o row l m n → selected_by shape l row ≡ false
    → HasLinked shape o row (l + 1) m n
linked_skip shape m n o l row L passes = record {
  filled = L.filled;
  books = L.books ∙ (ap (λ (ls : List ℕ). with_flight o row L.filled ls (book_of m.view) ∷ []) (sym (linked_same shape row l passes))
      ∙ ap (λ (k : ℕ). with_flight o row L.filled (linked_to shape row k) (book_of m.view) ∷ []) (one_more l));
  whole = L.whole;
}

pub linked_self : (shape : ShapeValue) (o : ℕ) (row : RowValue) (k : ℕ) (m n : PassValue) → HasLinked shape o row k m n → HasLinked shape o row k n n
linked_self shape o row k m n L = record {
  filled = L.filled;
  books = L.books
      ∙ ap (λ (b : Book). with_flight o row L.filled (linked_to shape row k) b ∷ [])
      (sym (the_book n.view (with_flight o row L.filled (linked_to shape row k) (book_of m.view)) L.books));
  whole = L.whole;
}

pub linked_then : (shape : ShapeValue) (o : ℕ) (row : RowValue) (j k : ℕ) (m n z : PassValue) → HasLinked shape o row j m n → HasLinked shape o row k n z
    → HasLinked shape o row k m z
linked_then shape o row j k m n z K L = record {
  filled = L.filled;
  books = L.books
      ∙ ap (λ (b : Book). with_flight o row L.filled (linked_to shape row k) b ∷ [])
      (the_book n.view (with_flight o row K.filled (linked_to shape row j) (book_of m.view)) K.books);
  whole = L.whole;
}

pub may_close : (shape : ShapeValue) (m n : PassValue) (o : ℕ) (row : RowValue) → IsShape shape → HasLinked shape o row (length shape.lanes) m n
    → IsLawfulStep shape n.view (finish_record o) (finish_effect shape n.view o)
may_close shape m n o row lawful L =
    let ls = linked_to shape row (length shape.lanes) in
    let b : Book = with_flight o row L.filled ls (book_of m.view) in
    may_finish shape n.view b (flight_at o row L.filled ls) o L.books refl refl (whole_ticket shape o row L.filled ls b.writer L.whole)
    (λ l q leads. is_linked shape row (length shape.lanes) l ((layout_law shape lawful).lanes row l q leads) (some_path shape row l q leads))

pub closed_books : (shape : ShapeValue) (m n z : PassValue) (o k : ℕ) (row : RowValue) → HasLinked shape o row k m n
    → HasSteppedUnseen shape (finish_effect shape n.view o) n z → (z.view).books ≡ with_own o row (book_of m.view) ∷ []
closed_books shape m n z o k row L stored =
    ap (λ (p : Pass). p.books) stored.made.told.is
    ∙ ap (λ (bs : List Book). set bs 0 (book_with_record (get_or bs 0 (no_book 0)) (flight_or (get_or bs 0 (no_book 0)).flight))) L.books

pub close_strides : (shape : ShapeValue) (m n : PassValue) (o : ℕ) → HasSteppedUnseen shape (finish_effect shape m.view o) m n → KeepsSeen m n
close_strides shape m n o stored =
    strides_by m n ((finish_effect shape m.view o).after 0 []) stored.made.same stored.made.told.is refl refl refl (λ r k h. h) (omega arith)

-- A word of a cell, wherever it stands.
pub may_word : (shape : ShapeValue) (p : PassValue) (o l h i value : ℕ) (row : RowValue) (q : List ℕ) → HasFilled shape o row i p p → l < length shape.lanes
    → h < cell_words (lane_at shape l) → i ≡ cell_from shape l + h
    → path_in shape row l ≡ Some q → value ≡ version_word (layout shape) l h (mine_chain (layout shape) (spot l q) (book_of p.view).mine) row
    → IsLawfulStep shape p.view (store_cell o i value) (store_effect p.view o i value)
may_word shape p o l h i value row q F there low at leads is =
    let sh = layout shape in
    let b : Book = with_flight o row F.filled [] (book_of p.view) in
    let f : Flight = flight_at o row F.filled [] in
    let t = ticket_of b.writer f in
    let from = F.from in
    let stands : use_at shape i ≡ version l h = ap (use_at shape) at ∙ version_at shape l h there low in
    let next : IsNext sh t i = record {
      from = from;
      skipped = λ k ge lt. skips_any sh (fresh_ticket 0 row) t (use_at shape k) refl (F.passed k ge lt);
      wanted = subst (λ (u : Use). Skips sh t u → ⊥) (sym stands) (λ none. absurd (let e : Some q ≡ None = sym leads ∙ none in cc e));
      within = omega (arith, at, low, cell_low shape l there);
    } in
    may_store shape p.view b f o i value F.books refl refl next
    (is ∙ (ap (λ (r : Option (List ℕ)). own_lane_word sh b row l h r) (sym leads) ∙ ap (λ (u : Use). own_word sh b row u) (sym stands)))

pub word_filled : (shape : ShapeValue) (p n : PassValue) (o i value : ℕ) (row : RowValue) → HasFilled shape o row i p p
    → HasSteppedUnseen shape (store_effect p.view o i value) p n → HasFilled shape o row (suc i) p n
word_filled shape p n o i value row F stored = record {
  filled = suc i;
  books = ap (λ (q : Pass). q.books) stored.made.told.is
      ∙ ap (λ (bs : List Book). set bs 0
      (book_with_flight (get_or bs 0 (no_book 0)) (record (flight_or (get_or bs 0 (no_book 0)).flight) { filled = suc i }))) F.books;
  from = omega arith;
  passed = λ k ge lt. absurd (omega (arith, ge, lt));
}

pub filled_mine : (s : ShapeValue) (o : ℕ) (row : RowValue) (k : ℕ) (m n : PassValue) → HasFilled s o row k m n → (book_of n.view).mine ≡ (book_of m.view).mine
filled_mine s o row k m n F = ap (λ (b : Book). b.mine) (the_book n.view (with_flight o row F.filled [] (book_of m.view)) F.books)

-- The three words of a measured lane's cell are stored, one after the other, by a pass that was p before the first.
pub three_low : (s : ShapeValue) (l i : ℕ) → (l < length s.lanes) × (is_measured s l ≡ true) → i ≡ cell_from s l → i + 3 < ticket_words s
three_low s l i lane at =
    let three = three_words s l lane.1 in
    omega (arith, at, three, cell_low s l lane.0)

pub may_next : (s : ShapeValue) (p m : PassValue) (o l h i value : ℕ) (row : RowValue) → HasFilled s o row i p m
    → (l < length s.lanes) × (is_measured s l ≡ true) → h < 3 → i ≡ cell_from s l + h → path_in s row l ≡ Some (key_path s l (key_of s l row))
    → value ≡ version_word (layout s) l h (row_chain s l row (book_of p.view)) row
    → IsLawfulStep s m.view (store_cell o i value) (store_effect m.view o i value)
may_next s p m o l h i value row F lane low at leads is =
    let three = three_words s l lane.1 in
    let q : List ℕ = key_path s l (key_of s l row) in
    may_word s m o l h i value row q (filled_self s o row i p m F) lane.0 (omega (arith, low, three)) at leads
    (is ∙ ap (λ (xs : List Own). version_word (layout s) l h (mine_chain (layout s) (spot l q) xs) row) (sym (filled_mine s o row i p m F)))

pub next_filled : (s : ShapeValue) (p m n : PassValue) (o i j value : ℕ) (row : RowValue) → suc i ≡ j → HasFilled s o row i p m
    → HasSteppedUnseen s (store_effect m.view o i value) m n → HasFilled s o row j p n
next_filled s p m n o i j value row next F stored =
    filled_at s o row (suc i) j p n next
    (filled_then s o row i (suc i) p m n F (word_filled s m n o i value row (filled_self s o row i p m F) stored))

pub first_filled : (s : ShapeValue) (p m : PassValue) (o l i value : ℕ) (row : RowValue) → i ≡ cell_from s l → HasFilled s o row (cell_from s l) p p
    → HasSteppedUnseen s (store_effect p.view o i value) p m → HasFilled s o row (i + 1) p m
first_filled s p m o l i value row at F stored =
    next_filled s p p m o i (i + 1) value row (omega arith) (filled_at s o row (cell_from s l) i p p (sym at) F) stored

pub second_filled : (s : ShapeValue) (p m n : PassValue) (o l i first sum : ℕ) (row : RowValue) → i ≡ cell_from s l
    → HasFilled s o row (cell_from s l) p p → HasSteppedUnseen s (store_effect p.view o i first) p m
    → HasSteppedUnseen s (store_effect m.view o (i + 1) sum) m n → HasFilled s o row (i + 2) p n
second_filled s p m n o l i first sum row at F stored stored1 =
    next_filled s p m n o (i + 1) (i + 2) sum row (omega arith) (first_filled s p m o l i first row at F stored) stored1

pub unmeasured_next : (s : ShapeValue) (l : ℕ) → l < length s.lanes → is_measured s l ≡ false → cell_from s (l + 1) ≡ cell_from s l + 1
unmeasured_next s l there bare = omega (arith, cell_next s l there, cell_one s l bare)

-- an own head, where the ticket in flight isn't linked
pub head_chain : (shape : ShapeValue) (m n : PassValue) (o k v : ℕ) (row : RowValue) (q : Spot) → HasFilled shape o row k m m
    → (n.view).books ≡ (m.view).books → v ≡ own_top (layout shape) (book_of m.view) q → v ≡ link_to_newest (mine_chain (layout shape) q (book_of n.view).mine)
head_chain shape m n o k v row q F kept is =
    is ∙ (ap (λ (c : Book). own_top (layout shape) c q) (the_book m.view (with_flight o row F.filled [] (book_of m.view)) F.books)
    ∙ (own_plain_top shape (book_of m.view) o row F.filled q
    ∙ ap (λ (bs : List Book). link_to_newest (mine_chain (layout shape) q (get_or bs 0 (no_book 0)).mine)) (sym kept)))

-- the newest own record in the leaf in which a row is filed, by the own head
pub filed_newest : (s : ShapeValue) (row : RowValue) (m n : PassValue) (o l v : ℕ) (filing : Option Filing) (f : Filing) → filing ≡ Some f
    → IsFiledIn s row m.view l filing → HasFilled s o row (cell_from s l) m m → (n.view).books ≡ (m.view).books
    → v ≡ own_top (layout s) (book_of m.view) (spot l (key_path s l f.key)) → v ≡ link_to_newest (leaf_chain s l (key_of s l row) (book_of n.view))
filed_newest s row m n o l v filing f is filed F kept head =
    subst (λ (k : ℕ). v ≡ link_to_newest (leaf_chain s l k (book_of n.view))) (filed_some s row m.view l filing f is filed).key
    (head_chain s m n o (cell_from s l) v row (spot l (key_path s l f.key)) F kept head)

pub book_same : (shape : ShapeValue) (m n : PassValue) → IsBookOf shape (book_of m.view) → (n.view).books ≡ (m.view).books → IsBookOf shape (book_of n.view)
book_same shape m n own kept = subst (λ (bs : List Book). IsBookOf shape (get_or bs 0 (no_book 0))) (sym kept) own

pub filled_book : (s : ShapeValue) (o : ℕ) (row : RowValue) (k : ℕ) (m n : PassValue) → HasFilled s o row k m n → IsBookOf s (book_of m.view)
    → IsBookOf s (book_of n.view)
filled_book s o row k m n F own =
    let is = the_book n.view (with_flight o row F.filled [] (book_of m.view)) F.books in
    subst (IsBookOf s) (sym is) (record { writer = own.writer; rows = own.rows; few = own.few })
