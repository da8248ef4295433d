-- Each kind of step keeps the law.
use Rattle.std.proofs.Common.{◌≡◌, ◌≢◌, ℕ, ◌+◌, ◌<◌, ◌≤◌, suc, List, [], ◌∷◌, ◌++◌, length, set, Option, Some, None, slice_get, cond, Bool, true, false, inl, inr, refl, arith, ap, ap₂, sym, ◌∙◌, subst}
use Rattle.cf_row.proofs.Truths.{lt_false, lt_true}
use Rattle.cf_row.specs.Row.{RowValue}
use Rattle.cf_shape.specs.Places.{head_slot}
use Rattle.std.proofs.lemmas.Bool.{cases_eq, cases_lt, cases_Bool}
use Rattle.std.proofs.lemmas.Option.{slice_get_within}
use Rattle.cf_shape.specs.Places.{Slot, place}
use Rattle.cf_shape.specs.Places.Slot.{tail, cell}
use Rattle.cf_law.proofs.Forms.{stocks_with_label, stocks_with_mark, ticket_with_word, ticket_with_done, CanFill, CanHead}
use Rattle.cf_law.specs.Words.{spot, Layout, Ticket, NodeStock, stock_of, marked_books, has, fresh_ticket}
use Rattle.cf_law.specs.Law.{LayoutLaw, IsWhole}
use Rattle.cf_law.specs.Passes.{Own, Flight, Book, Pass}
use Rattle.cf_law.specs.Steps.{Holds, HoldsInFlight, ticket_of, book_with_flight, book_with_ticket, book_with_word, book_with_record, book_with_head, own_word, pass_with_book, IsNext, Knows}
use Rattle.cf_law.specs.Lawful.{Base, BaseLaw, mine_in, flight_in, book_at, PassLaw, Stands}
use Rattle.cf_law.specs.Events.{word_at}
use Rattle.cf_law.proofs.Nodes.{book_same, book_other, over_node_at}
use Rattle.cf_law.proofs.Heads.{none_after}
use Rattle.cf_law.proofs.Passes.{Becomes, Evolves}
use Rattle.cf_law.proofs.Bases.{new_ticket, new_mark, touched, evolves_self, evolves_set, evolves_push, grows_self, ticket_base, over_base, fill_base, finish_base, head_base}
use Rattle.cf_law.proofs.Books.{flight_of, own_of, flight_found, none_flying, set_other, push_other, set_open, set_done, push_own}
use Rattle.cf_law.proofs.Owned.{own_word_is}
use Rattle.cf_law.proofs.Acting.{booked}

stock_over_same : (bs : List NodeStock) (w : ℕ) → w < length bs
    → stock_of (stocks_with_mark w bs) w ≡ record { used = (stock_of bs w).used; label = (stock_of bs w).label; over = true }
unfolding stocks_with_mark
stock_over_same bs w h = book_same bs w _ h

stock_over_other : (bs : List NodeStock) (w v : ℕ) → v ≢ w → stock_of (stocks_with_mark w bs) v ≡ stock_of bs v
unfolding stocks_with_mark
stock_over_other bs w v h = book_other bs w v _ h

pub stock_label_same : (bs : List NodeStock) (w l : ℕ) → w < length bs
    → stock_of (stocks_with_label w l bs) w ≡ record { used = (stock_of bs w).used; label = l; over = (stock_of bs w).over }
unfolding stocks_with_label
stock_label_same bs w l h = book_same bs w _ h

pub stock_label_other : (bs : List NodeStock) (w l v : ℕ) → v ≢ w → stock_of (stocks_with_label w l bs) v ≡ stock_of bs v
unfolding stocks_with_label
stock_label_other bs w l v h = book_other bs w v _ h

marked_some : (bs : List NodeStock) → 0 < marked_books bs → (w : ℕ) × ((stock_of bs w).over ≡ true)
unfolding marked_books stock_of
marked_some [] h = absurd (omega arith)
marked_some (b ∷ bs) h = elim (cases_Bool b.over) [
  | inl e ↦ (0, e)
  | inr e ↦ let r = marked_some bs (omega (arith, h, ap (λ (t : Bool). cond {A = ℕ} t 1 0) e)) in (suc r.0, r.1)
]

-- a base that came later
abbrev pub Later : Base → Base → Type 0
Later m n = Evolves m.log n.log × (m.tails.1 ≤ n.tails.1)

-- the base after a step that leaves v in the slot t, and the passes then
abbrev pub Next : Layout → Base → Slot → ℕ → List Pass → Type 0
Next sh m t v passes = (n : Base) × (n.words ≡ set m.words (place sh.sizes t) v) × Stands sh n passes × Later m n

pub made_book : (m : Base) (w : ℕ) (mine : List Own) (flight : Option Flight) (st : NodeStock) → mine ≡ mine_in w 0 m.log → flight ≡ flight_in w 0 m.log
    → st ≡ stock_of m.stocks w
    → (record { writer = w; mine = mine; flight = flight; over = st.over; used = st.used; label = st.label }) ≡ book_at m w
made_book m w mine flight st a b c =
    let f : List Own → Option Flight → NodeStock → Book = λ x y z. record { writer = w; mine = x; flight = y; over = z.over; used = z.used; label = z.label } in
    ap₂ (λ (x : List Own) (y : Option Flight). f x y st) a b ∙ ap (λ (z : NodeStock). f (mine_in w 0 m.log) (flight_in w 0 m.log) z) c

-- what the book of a ticket in flight tells
pub record Aloft (sh : Layout) (m : Base) (b : Book) (f : Flight) : Type 0 where
  pub book : b ≡ book_at m b.writer
  pub writer : b.writer < sh.sizes.writers
  pub flying : flight_in b.writer 0 m.log ≡ Some f
  pub at : slice_get m.log f.offset ≡ Some (ticket_of b.writer f)
  pub small : f.offset < sh.sizes.tickets

pub aloft : (sh : Layout) (m : Base) (p : Pass) (k : ℕ) (b : Book) (f : Flight) → BaseLaw sh m → PassLaw sh m p → HoldsInFlight p k b f → Aloft sh m b f
aloft sh m p k b f law knows flies =
    let own = knows.books k b flies.0 in
    let flying : flight_in b.writer 0 m.log ≡ Some f = sym (ap (λ (c : Book). c.flight) own.1) ∙ flies.1 in
    let found = flight_found b.writer 0 m.log f flying in
    let at : slice_get m.log f.offset ≡ Some (ticket_of b.writer f) = ap (slice_get m.log) (let e : f.offset ≡ found.0 = omega (arith, found.1) in e)
    ∙ found.2 in
    record {
      book = own.1;
      writer = own.0;
      flying = flying;
      at = at;
      small = omega (arith, slice_get_within m.log f.offset (ticket_of b.writer f) at, law.room);
    }

-- the books after a change of the ticket in flight
others_touched : (sh : Layout) (m : Base) (w o : ℕ) (t u : Ticket) (z : Slot) (x : ℕ) → slice_get m.log o ≡ Some t → t.writer ≡ w → u.writer ≡ w
    → (v : ℕ) → v ≢ w → book_at (touched sh o u z x m) v ≡ book_at m v
others_touched sh m w o t u z x at tw uw v ne =
    let h = set_other w v 0 o m.log t u at tw uw ne in
    sym (made_book (touched sh o u z x m) v (mine_in v 0 m.log) (flight_in v 0 m.log) (stock_of m.stocks v) (sym h.0) (sym h.1) refl)

open_touched : (sh : Layout) (m : Base) (b : Book) (f g : Flight) (z : Slot) (x : ℕ) → Aloft sh m b f → g.offset ≡ f.offset
    → book_with_flight b g ≡ book_at (touched sh f.offset (ticket_of b.writer g) z x m) b.writer
open_touched sh m b f g z x A same =
    let h = set_open b.writer 0 f.offset m.log f (ticket_of b.writer g) A.flying (omega arith) A.at refl refl in
    let place_is : 0 + f.offset ≡ g.offset = omega (arith, same) in
    ap (λ (c : Book). book_with_flight c g) A.book
    ∙ made_book (touched sh f.offset (ticket_of b.writer g) z x m) b.writer (mine_in b.writer 0 m.log) (Some g) (stock_of m.stocks b.writer) (sym h.0)
    (sym (h.1 ∙ ap (λ (n : ℕ). Some (flight_of n (ticket_of b.writer g))) place_is)) refl

flight_step : (sh : Layout) (m : Base) (passes : List Pass) (kk : ℕ) (p : Pass) (k : ℕ) (b : Book) (f g : Flight) (z : Slot) (x : ℕ) → Stands sh m passes
    → slice_get passes kk ≡ Some p → HoldsInFlight p k b f
    → Aloft sh m b f → g.offset ≡ f.offset → Becomes (ticket_of b.writer f) (ticket_of b.writer g)
    → BaseLaw sh (touched sh f.offset (ticket_of b.writer g) z x m)
    → Next sh m z x (set passes kk (pass_with_book k (book_with_flight b g) p))
flight_step sh m passes kk p k b f g z x S at flies A same grown law =
    let m' = touched sh f.offset (ticket_of b.writer g) z x m in (
      m',
      refl,
      booked sh m m' passes kk p k b (book_with_flight b g) S at flies.0 law
          (evolves_set m.log f.offset (ticket_of b.writer f) (ticket_of b.writer g) A.at grown) (grows_self sh.sizes.nodes m.stocks) (omega arith)
          (open_touched sh m b f g z x A same) (others_touched sh m b.writer f.offset (ticket_of b.writer f) (ticket_of b.writer g) z x A.at refl refl),
      (evolves_set m.log f.offset (ticket_of b.writer f) (ticket_of b.writer g) A.at grown, omega arith),
    )

-- A stored word.
pub store_keeps : (sh : Layout) (m : Base) (passes : List Pass) (kk : ℕ) (p : Pass) (k i : ℕ) (b : Book) (f : Flight) → Stands sh m passes
    → slice_get passes kk ≡ Some p → HoldsInFlight p k b f
    → IsNext sh (ticket_of b.writer f) i
    → Next sh m (cell f.offset i) (own_word sh b f.row (sh.use_of i)) (set passes kk (pass_with_book k (book_with_word i b f) p))
store_keeps sh m passes kk p k i b f S at flies next =
    let A = aloft sh m p k b f S.law (S.knows kk p at) flies in
    let can : CanFill sh m.log f.offset (ticket_of b.writer f) i =
    record { at = A.at; flies = refl; from = next.from; skipped = next.skipped; within = next.within } in
    let value = own_word_is sh m b.writer f.offset b f (sh.use_of i) S.law A.book A.at in
    flight_step sh m passes kk p k b f (record f { filled = suc i }) (cell f.offset i) (own_word sh b f.row (sh.use_of i)) S at flies A refl
    (record { writer = refl; row = refl; filled = (let h = next.from in omega arith); done = λ h. h })
    (subst (λ (v : ℕ). BaseLaw sh (touched sh f.offset (ticket_with_word i (ticket_of b.writer f)) (cell f.offset i) v m)) (sym value)
    (fill_base sh m f.offset i (ticket_of b.writer f) S.law can))

-- A head.
pub head_keeps : (sh : Layout) (m : Base) (passes : List Pass) (kk : ℕ) (p : Pass) (k l d node : ℕ) (q : List ℕ) (b : Book) (f : Flight) → LayoutLaw sh
    → Stands sh m passes → slice_get passes kk ≡ Some p → HoldsInFlight p k b f
    → IsWhole sh (ticket_of b.writer f) → has f.linked l ≡ false → sh.path f.row l ≡ Some (d ∷ q) → Knows p (spot l q) node
    → Next sh m (head_slot sh.sizes node d b.writer) (suc f.offset) (set passes kk (pass_with_book k (book_with_head l b f) p))
head_keeps sh m passes kk p k l d node q b f shaped S at flies ready fresh leads leaf =
    let A = aloft sh m p k b f S.law (S.knows kk p at) flies in
    let can : CanHead sh m.log m.stocks f.offset (ticket_of b.writer f) l d q node =
    record {
      at = A.at;
      flies = refl;
      ready = ready;
      fresh = fresh;
      leads = leads;
      leaf = (S.knows kk p at).known leaf.0 (spot l q, node) leaf.1;
      writer = A.writer;
    } in
    flight_step sh m passes kk p k b f (record f { linked = l ∷ f.linked }) (head_slot sh.sizes node d b.writer) (suc f.offset) S at flies A refl
    (record { writer = refl; row = refl; filled = omega arith; done = λ h. h })
    (head_base sh m f.offset (ticket_of b.writer f) l d q node shaped S.law can)

-- A done word.
pub finish_keeps : (sh : Layout) (m : Base) (passes : List Pass) (kk : ℕ) (p : Pass) (k i : ℕ) (b : Book) (f : Flight) → Stands sh m passes
    → slice_get passes kk ≡ Some p → HoldsInFlight p k b f
    → suc i ≡ sh.sizes.ticket_words → IsWhole sh (ticket_of b.writer f) → ((l : ℕ) (q : List ℕ) → sh.path f.row l ≡ Some q → has f.linked l ≡ true)
    → Next sh m (cell f.offset i) 1 (set passes kk (pass_with_book k (book_with_record b f) p))
finish_keeps sh m passes kk p k i b f S at flies last ready everywhere =
    let A = aloft sh m p k b f S.law (S.knows kk p at) flies in
    let t : Ticket = ticket_of b.writer f in
    let m' = touched sh f.offset (ticket_with_done t) (cell f.offset i) 1 m in
    let h = set_done b.writer 0 f.offset m.log f (ticket_with_done t) A.flying (omega arith) A.at refl refl
    (λ j u there w lt. none_after m.log f.offset j t u S.law.flight A.at refl there w lt) in
    let place_is : 0 + f.offset ≡ f.offset = omega arith in
    let own : book_with_record (book_at m b.writer) f ≡ book_at m' b.writer =
    made_book m' b.writer (mine_in b.writer 0 m.log ++ own_of f.offset (ticket_with_done t) ∷ []) None (stock_of m.stocks b.writer)
    (sym (h.0 ∙ ap (λ (n : ℕ). mine_in b.writer 0 m.log ++ own_of n (ticket_with_done t) ∷ []) place_is)) (sym h.1) refl in (
      m',
      refl,
      booked sh m m' passes kk p k b (book_with_record b f) S at flies.0 (finish_base sh m f.offset i t S.law A.at last everywhere ready)
          (evolves_set m.log f.offset t (ticket_with_done t) A.at (record { writer = refl; row = refl; filled = omega arith; done = λ h. refl }))
          (grows_self sh.sizes.nodes m.stocks) (omega arith)
          (ap (λ (c : Book). book_with_record c f) A.book ∙ own)
          (others_touched sh m b.writer f.offset t (ticket_with_done t) (cell f.offset i) 1 A.at refl refl),
      (evolves_set m.log f.offset t (ticket_with_done t) A.at (record { writer = refl; row = refl; filled = omega arith; done = λ h. refl }), omega arith),
    )

-- A ticket.
no_marks : (sh : Layout) (m : Base) → BaseLaw sh m → length m.log < sh.sizes.tickets → m.tails.0 ≡ length m.log
no_marks sh m law lt = elim (cases_eq (marked_books m.stocks) 0) [
  | inl e ↦ omega (arith, law.marks)
  | inr ne ↦ let k = marked_some m.stocks (omega arith) in absurd (omega (arith, law.ends k.0 k.1))
]

take_new : (sh : Layout) (m : Base) (passes : List Pass) (kk : ℕ) (p : Pass) (r : RowValue) (b : Book) → Stands sh m passes → slice_get passes kk ≡ Some p
    → Holds p 0 b
    → sh.fits r ≡ true → b.flight ≡ None → m.tails.0 < sh.sizes.tickets
    → Next sh m (tail 0) (suc m.tails.0)
    (set passes kk (pass_with_book 0 (book_with_flight b (record { offset = m.tails.0; row = r; filled = 0; linked = [] })) p))
take_new sh m passes kk p r b S at held fits none lt =
    let own = (S.knows kk p at).books 0 b held in
    let w : ℕ = b.writer in
    let quiet : flight_in w 0 m.log ≡ None = sym (ap (λ (c : Book). c.flight) own.1) ∙ none in
    let m' = new_ticket sh w r m in
    let u = fresh_ticket w r in
    let low : length m.log < sh.sizes.tickets = omega (arith, S.law.marks) in
    let o : m.tails.0 ≡ length m.log = no_marks sh m S.law low in
    let h = push_own w 0 m.log r quiet in
    let place_is : 0 + length m.log ≡ m.tails.0 = omega (arith, o) in
    let f : Flight = record { offset = m.tails.0; row = r; filled = 0; linked = [] } in (
      m',
      refl,
      booked sh m m' passes kk p 0 b (book_with_flight b f) S at held
          (ticket_base sh m w r S.law fits own.0 low (λ i t there e. none_flying w 0 m.log i t quiet there e))
          (evolves_push m.log u) (grows_self sh.sizes.nodes m.stocks) (omega arith)
          (ap (λ (c : Book). book_with_flight c f) own.1
          ∙ made_book m' w (mine_in w 0 m.log) (Some f) (stock_of m.stocks w) (sym h.0)
          (sym (h.1 ∙ ap (λ (n : ℕ). Some (Rattle.cf_law.specs.Steps.fresh_flight n r)) place_is)) refl)
          (λ v ne. let g = push_other w v 0 m.log u refl ne in
          sym (made_book m' v (mine_in v 0 m.log) (flight_in v 0 m.log) (stock_of m.stocks v) (sym g.0) (sym g.1) refl)),
      (evolves_push m.log u, omega arith),
    )

take_mark : (sh : Layout) (m : Base) (passes : List Pass) (kk : ℕ) (p : Pass) (b : Book) → Stands sh m passes → slice_get passes kk ≡ Some p → Holds p 0 b
    → b.over ≡ false → sh.sizes.tickets ≤ m.tails.0
    → Next sh m (tail 0) (suc m.tails.0) (set passes kk (pass_with_book 0 (record b { over = true }) p))
take_mark sh m passes kk p b S at held fresh le =
    let own = (S.knows kk p at).books 0 b held in
    let w : ℕ = b.writer in
    let m' = new_mark sh w m in
    let room : w < length m.stocks = omega (arith, S.law.nodes.writers, own.0) in
    let full : length m.log ≡ sh.sizes.tickets = elim (cases_eq (marked_books m.stocks) 0) [
      | inl e ↦ omega (arith, S.law.marks, S.law.room)
      | inr ne ↦ let k = marked_some m.stocks (omega arith) in S.law.ends k.0 k.1
    ] in (
      m',
      refl,
      booked sh m m' passes kk p 0 b (record b { over = true }) S at held
          (over_base sh m w S.law room (sym (ap (λ (c : Book). c.over) own.1) ∙ fresh) full)
          (evolves_self m.log) (λ n s e. over_node_at sh.sizes.nodes m.stocks w n room ∙ e) (omega arith)
          (ap (λ (c : Book). record c { over = true }) own.1
          ∙ made_book m' w (mine_in w 0 m.log) (flight_in w 0 m.log)
          (record { used = (stock_of m.stocks w).used; label = (stock_of m.stocks w).label; over = true }) refl refl
          (sym (stock_over_same m.stocks w room)))
          (λ v ne. sym (made_book m' v (mine_in v 0 m.log) (flight_in v 0 m.log) (stock_of m.stocks v) refl refl (sym (stock_over_other m.stocks w v ne)))),
      (evolves_self m.log, omega arith),
    )

take_at : (sh : Layout) (m : Base) (passes : List Pass) (kk : ℕ) (p : Pass) (r : RowValue) (b : Book) → Stands sh m passes → slice_get passes kk ≡ Some p
    → Holds p 0 b
    → sh.fits r ≡ true → b.over ≡ false → b.flight ≡ None
    → Next sh m (tail 0) (suc m.tails.0) (set passes kk (pass_with_book 0 (book_with_ticket sh r m.tails.0 b) p))
take_at sh m passes kk p r b S at held fits fresh none = elim (cases_lt m.tails.0 sh.sizes.tickets) [
  | inl lt ↦ subst
      (λ (c : Bool). Next sh m (tail 0) (suc m.tails.0)
      (set passes kk (pass_with_book 0 (cond c (book_with_flight b (Rattle.cf_law.specs.Steps.fresh_flight m.tails.0 r)) (record b { over = true })) p)))
      (sym (lt_true m.tails.0 sh.sizes.tickets lt)) (take_new sh m passes kk p r b S at held fits none lt)
  | inr ge ↦ subst
      (λ (c : Bool). Next sh m (tail 0) (suc m.tails.0)
      (set passes kk (pass_with_book 0 (cond c (book_with_flight b (Rattle.cf_law.specs.Steps.fresh_flight m.tails.0 r)) (record b { over = true })) p)))
      (sym (lt_false m.tails.0 sh.sizes.tickets (λ h. omega arith))) (take_mark sh m passes kk p b S at held fresh ge)
]

pub tail_word_is : (sh : Layout) (m : Base) (k : ℕ) → BaseLaw sh m → k < 2 → word_at sh m.words (tail k) ≡ Rattle.cf_law.specs.Words.tail_word m.tails k
tail_word_is sh m k law lt = law.spells (tail k) lt

pub take_keeps : (sh : Layout) (m : Base) (passes : List Pass) (kk : ℕ) (p : Pass) (r : RowValue) (b : Book) → Stands sh m passes
    → slice_get passes kk ≡ Some p → p.books ≡ b ∷ []
    → sh.fits r ≡ true → b.over ≡ false → b.flight ≡ None
    → Next sh m (tail 0) (suc (word_at sh m.words (tail 0))) (set passes kk (record p { books = book_with_ticket sh r (word_at sh m.words (tail 0)) b ∷ [] }))
take_keeps sh m passes kk p r b S at one fits fresh none =
    let n : word_at sh m.words (tail 0) ≡ m.tails.0 = tail_word_is sh m 0 S.law (omega arith) in
    let held : Holds p 0 b = ap (λ (bs : List Book). slice_get bs 0) one in
    subst (λ (k : ℕ). Next sh m (tail 0) (suc k) (set passes kk (record p { books = book_with_ticket sh r k b ∷ [] }))) (sym n)
    (subst (λ (bs : List Book). Next sh m (tail 0) (suc m.tails.0) (set passes kk (record p { books = set bs 0 (book_with_ticket sh r m.tails.0 b) }))) one
    (take_at sh m passes kk p r b S at held fits fresh none))
