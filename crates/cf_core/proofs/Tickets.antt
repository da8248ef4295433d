-- Tickets.
use Rattle.std.proofs.Common.{◌≡◌, ℕ, ◌+◌, ◌<◌, ◌≤◌, suc, [], ◌∷◌, length, set, get_or, slice_get, true, nat_lt, refl, arith, ap, ap₂, sym, ◌∙◌, subst}
use Rattle.cf_row.specs.Row.{RowValue, values_fit}
use Rattle.cf_row.proofs.Bytes.{both}
use Rattle.cf_shape.specs.Uses.{ticket_words, use_at}
use Rattle.cf_shape.specs.Places.{place}
use Rattle.cf_shape.specs.Places.Slot.{tail, cell}
use Rattle.cf_law.specs.Law.{IsWhole}
use Rattle.cf_law.specs.Passes.{Book, Flight, Pass}
use Rattle.cf_law.specs.Steps.{HoldsInFlight, IsNext, pass_with_book, book_with_word, book_with_record, book_with_ticket, ticket_of, own_word}
use Rattle.cf_law.specs.Steps.Act.{take_ticket, store_cell, finish_record}
use Rattle.cf_law.specs.Steps.Step.{takes, stores, finishes}
use Rattle.cf_law.specs.Lawful.{World}
use Rattle.cf_law.specs.Events.{IsEvent, word_at}
use Rattle.cf_law.specs.Events.WorldEvent.{acts}
use Rattle.cf_law.specs.Shapes.{layout}
use Rattle.cf_law.proofs.Loads.{place_tail}
use Rattle.cf_law.proofs.Keeps.{aloft}
use Rattle.cf_law.proofs.Decides.{flight_unique}
use Rattle.cf_law.proofs.Readers.{write_tail_most}
use Rattle.cf_core.specs.Worlds.{WorldValue, IsLawfulWorld, IsLivePass, draft, AllLinked, world_of}
use Rattle.cf_pass.specs.Books.{MayTake, ticketed_at}
use Rattle.cf_core.proofs.Paths.{next_any, whole_any}
use Rattle.cf_core.proofs.Making.{does_step, word_there, live_one}
use Rattle.cf_core.proofs.Inverse.{acts_of, stores_of, finishes_of}

pub write_tail_there : (h : WorldValue) → IsLawfulWorld h → 0 < length h.words
write_tail_there h is = let w = word_there h (tail 0) is (omega arith) in omega arith

pub write_tail_few : (h : WorldValue) → IsLawfulWorld h → get_or h.words 0 0 ≤ 65551
write_tail_few h is =
    let m = write_tail_most (layout h.shape) h.words h.passes is.law in
    let e = ap (λ (n : ℕ). get_or h.words n 0) (place_tail (layout h.shape).sizes 0) in
    let a = is.shape.capacity.1 in
    let b = is.shape.writers.1 in
    omega (arith, m, e, a, b)

pub ticket_does : (h : WorldValue) (k found : ℕ) (row : RowValue) (p after : Pass) → IsLivePass h k p → (layout h.shape).fits row ≡ true → MayTake p
    → found ≡ get_or h.words 0 0
    → ((b : Book) → p.books ≡ b ∷ [] → after ≡ record p { books = ticketed_at h.shape.capacity row found b ∷ [] })
    → IsEvent (layout h.shape) (world_of h) k (acts (take_ticket row)) (record { words = set h.words 0 (found + 1); passes = set h.passes k after })
ticket_does h k found row p after live fits may v is =
    let sh = layout h.shape in
    let none = place_tail sh.sizes 0 in
    let word : found ≡ word_at sh h.words (tail 0) = v ∙ ap (λ (n : ℕ). get_or h.words n 0) (sym none) in
    let next : found + 1 ≡ suc (word_at sh h.words (tail 0)) = omega (arith, word) in
    let b = may.0 in
    does_step sh (world_of h) k p (take_ticket row) (tail 0) (λ n. suc n) (λ n es. record p { books = book_with_ticket sh row n b ∷ [] }) 0
    (found + 1) after live (takes row b fits may.1 may.2 may.3) (sym none) next
    (is b may.1 ∙ ap (λ (n : ℕ). record p { books = book_with_ticket sh row n b ∷ [] }) word)

-- Words of tickets.
pub cell_does : (h : WorldValue) (k offset i value at j : ℕ) (p after : Pass) (b : Book) (f : Flight) → IsLivePass h k p → HoldsInFlight p j b f
    → f.offset ≡ offset → IsNext (layout h.shape) (draft f.row f.filled) i
    → value ≡ own_word (layout h.shape) b f.row (use_at h.shape i) → at ≡ place (layout h.shape).sizes (cell offset i)
    → after ≡ pass_with_book j (book_with_word i b f) p
    → IsEvent (layout h.shape) (world_of h) k (acts (store_cell offset i value)) (record { words = set h.words at value; passes = set h.passes k after })
cell_does h k offset i value at j p after b f live flies off next own e pass =
    let sh = layout h.shape in
    let act : Rattle.cf_law.specs.Steps.Act.store_cell f.offset i (own_word sh b f.row (sh.use_of i)) ≡ store_cell offset i value =
    ap₂ (λ (o w : ℕ). store_cell o i w) off (sym own) in
    subst (λ (a : Rattle.cf_law.specs.Steps.Act). IsEvent sh (world_of h) k (acts a)
    (record { words = set h.words at value; passes = set h.passes k after })) act
    (does_step sh (world_of h) k p (store_cell f.offset i (own_word sh b f.row (sh.use_of i))) (cell f.offset i) (λ n. own_word sh b f.row (sh.use_of i))
    (λ n es. pass_with_book j (book_with_word i b f) p) at value after live
    (stores j i b f flies (next_any sh (draft f.row f.filled) (ticket_of b.writer f) i refl refl next))
    (e ∙ ap (λ (o : ℕ). place sh.sizes (cell o i)) (sym off)) own pass)

pub done_does : (h : WorldValue) (k offset i at j : ℕ) (p after : Pass) (b : Book) (f : Flight) → IsLivePass h k p → HoldsInFlight p j b f → f.offset ≡ offset
    → suc i ≡ ticket_words h.shape → IsWhole (layout h.shape) (draft f.row f.filled) → AllLinked h.shape f.row f.linked
    → at ≡ place (layout h.shape).sizes (cell offset i) → after ≡ pass_with_book j (book_with_record b f) p
    → IsEvent (layout h.shape) (world_of h) k (acts (finish_record offset)) (record { words = set h.words at 1; passes = set h.passes k after })
done_does h k offset i at j p after b f live flies off last whole linked e pass =
    let sh = layout h.shape in
    subst (λ (o : ℕ). IsEvent sh (world_of h) k (acts (finish_record o)) (record { words = set h.words at 1; passes = set h.passes k after })) off
    (does_step sh (world_of h) k p (finish_record f.offset) (cell f.offset i) (λ n. 1) (λ n es. pass_with_book j (book_with_record b f) p) at 1 after live
    (finishes j i b f flies last (whole_any sh (draft f.row f.filled) (ticket_of b.writer f) refl refl whole) linked)
    (e ∙ ap (λ (o : ℕ). place sh.sizes (cell o i)) (sym off)) refl pass)

-- the flight is the one
pub same_flight : (h : WorldValue) (k i j : ℕ) (p : Pass) (b c : Book) (f g : Flight) → IsLawfulWorld h → IsLivePass h k p → HoldsInFlight p i b f
    → HoldsInFlight p j c g → f.offset ≡ g.offset → (b ≡ c) × (f ≡ g)
same_flight h k i j p b c f g is live x y same =
    let e = flight_unique (layout h.shape) is.law.base h.passes k p i j b c f g is.law.stands live.0 x y same in
    let books : b ≡ c = cc (x.0, ap (slice_get p.books) e, y.0) in
    (books, cc (x.1, ap (λ (d : Book). d.flight) books, y.1))

pub cell_only : (h : WorldValue) (k offset i value j : ℕ) (p : Pass) (b : Book) (f : Flight) (y : World) → IsLawfulWorld h → IsLivePass h k p
    → HoldsInFlight p j b f → f.offset ≡ offset → IsEvent (layout h.shape) (world_of h) k (acts (store_cell offset i value)) y
    → IsNext (layout h.shape) (draft f.row f.filled) i × (value ≡ own_word (layout h.shape) b f.row (use_at h.shape i))
cell_only h k offset i value j p b f y is live flies off does =
    let sh = layout h.shape in
    let A = acts_of sh (world_of h) k (store_cell offset i value) y does in
    let r = stores_of sh A.pass offset i value A.slot A.change A.after A.step in
    let same = live_one h k A.pass p A.live live in
    let there : HoldsInFlight p r.place r.book r.flight = subst (λ (q : Pass). HoldsInFlight q r.place r.book r.flight) same r.flies in
    let one = same_flight h k r.place j p r.book b r.flight f is live there flies (r.offset ∙ sym off) in (
      next_any sh (ticket_of r.book.writer r.flight) (draft f.row f.filled) i (ap (λ (g : Flight). g.row) one.1) (ap (λ (g : Flight). g.filled) one.1) r.next,
      sym r.value ∙ ap₂ (λ (c : Book) (g : Flight). own_word sh c g.row (use_at h.shape i)) one.0 one.1,
    )

pub done_only : (h : WorldValue) (k offset j : ℕ) (p : Pass) (b : Book) (f : Flight) (y : World) → IsLawfulWorld h → IsLivePass h k p → HoldsInFlight p j b f
    → f.offset ≡ offset → IsEvent (layout h.shape) (world_of h) k (acts (finish_record offset)) y
    → IsWhole (layout h.shape) (draft f.row f.filled) × AllLinked h.shape f.row f.linked
done_only h k offset j p b f y is live flies off does =
    let sh = layout h.shape in
    let A = acts_of sh (world_of h) k (finish_record offset) y does in
    let r = finishes_of sh A.pass offset A.slot A.change A.after A.step in
    let same = live_one h k A.pass p A.live live in
    let there : HoldsInFlight p r.place r.book r.flight = subst (λ (q : Pass). HoldsInFlight q r.place r.book r.flight) same r.flies in
    let one = same_flight h k r.place j p r.book b r.flight f is live there flies (r.offset ∙ sym off) in (
      whole_any sh (ticket_of r.book.writer r.flight) (draft f.row f.filled) (ap (λ (g : Flight). g.row) one.1) (ap (λ (g : Flight). g.filled) one.1) r.whole,
      subst (λ (g : Flight). AllLinked h.shape g.row g.linked) one.1 r.linked,
    )

-- what a ticket in flight is known to be
pub record IsAloft (h : WorldValue) (b : Book) (f : Flight) : Type 0 where
  pub offset : f.offset < h.shape.capacity
  pub fits : values_fit h.shape.schema f.row.values ≡ true
  pub writer : b.writer < 16
  pub one : b.writer < h.shape.writers

pub aloft_is : (h : WorldValue) (k j : ℕ) (p : Pass) (b : Book) (f : Flight) → IsLawfulWorld h → IsLivePass h k p → HoldsInFlight p j b f → IsAloft h b f
aloft_is h k j p b f is live flies =
    let L = is.law.stands.law in
    let A = aloft (layout h.shape) is.law.base p j b f L (is.law.stands.knows k p live.0) flies in
    let few = is.shape.writers.1 in
    let w = A.writer in
    let r = L.room in record {
      offset = (let lt = Rattle.std.proofs.lemmas.Option.slice_get_within is.law.base.log f.offset (ticket_of b.writer f) A.at in omega (arith, lt, r));
      fits = (both (values_fit h.shape.schema f.row.values) (nat_lt f.row.num 4294967296) (L.fits f.offset (ticket_of b.writer f) A.at)).0;
      writer = omega (arith, few, w);
      one = w;
    }
