-- Heads.
use Rattle.std.proofs.Common.{◌≡◌, ℕ, ◌+◌, ◌<◌, suc, List, ◌∷◌, set, Some, false, refl, arith, ap, sym, ◌∙◌, subst}
use Rattle.cf_row.specs.Row.{RowValue}
use Rattle.cf_shape.specs.Places.{place_of, head_slot}
use Rattle.cf_shape.specs.Places.WordName.{head as head_word}
use Rattle.cf_law.specs.Words.{Spot, spot, has}
use Rattle.cf_law.specs.Law.{IsWhole}
use Rattle.cf_law.specs.Passes.{Book, Flight, Pass}
use Rattle.cf_law.specs.Steps.{HoldsInFlight, Knows, pass_with_book, book_with_head, ticket_of}
use Rattle.cf_law.specs.Steps.Act.{store_head}
use Rattle.cf_law.specs.Steps.Step.{heads}
use Rattle.cf_law.specs.Lawful.{World}
use Rattle.cf_law.specs.Events.{IsEvent}
use Rattle.cf_law.specs.Events.WorldEvent.{acts}
use Rattle.cf_law.specs.Shapes.{layout, path_in}
use Rattle.cf_law.proofs.Shapes.{layout_law}
use Rattle.cf_law.proofs.Decides.{known_unique}
use Rattle.cf_core.specs.Worlds.{WorldValue, IsLawfulWorld, IsLivePass, draft, LeadsTo, world_of}
use Rattle.cf_pass.specs.Books.{NoneFlies}
use Rattle.cf_core.proofs.Making.{does_step, live_one}
use Rattle.cf_core.proofs.Paths.{whole_any}
use Rattle.cf_core.proofs.Tickets.{same_flight}
use Rattle.cf_core.proofs.Inverse.{acts_of, heads_of}

pub low_nibble : (h : WorldValue) (p : Pass) (row : RowValue) (l node d : ℕ) → IsLawfulWorld h → LeadsTo h p row l node d → d < 16
low_nibble h p row l node d is leads = (layout_law h.shape is.shape).nibble row l d leads.0 leads.1

-- what leads there
pub leads_is : (h : WorldValue) (p : Pass) (row : RowValue) (l node d : ℕ) (s : Spot) (path : List ℕ) → Knows p s node → path_in h.shape row l ≡ Some path
    → spot s.lane (d ∷ s.path) ≡ spot l path → LeadsTo h p row l node d
leads_is h p row l node d s path known leads same =
    let lane : s.lane ≡ l = ap (λ (x : Spot). x.lane) same in
    let nibbles : d ∷ s.path ≡ path = ap (λ (x : Spot). x.path) same in
    (s.path, leads ∙ ap (λ (q : List ℕ). Some q) (sym nibbles), subst (λ (x : ℕ). Knows p (spot x s.path) node) lane known)

pub leads_only : (h : WorldValue) (k : ℕ) (p : Pass) (row : RowValue) (l node d : ℕ) (s : Spot) (path : List ℕ) → IsLawfulWorld h → IsLivePass h k p
    → Knows p s node → path_in h.shape row l ≡ Some path → LeadsTo h p row l node d → spot s.lane (d ∷ s.path) ≡ spot l path
leads_only h k p row l node d s path is live known there leads =
    let one : spot l leads.0 ≡ s = known_unique (layout h.shape) is.law.base p (spot l leads.0) s node (is.law.stands.knows k p live.0) leads.2 known in
    let e : ◌≡◌ {A = Rattle.std.specs.Prelude.Option (List ℕ)} (Some (d ∷ leads.0)) (Some path) = sym leads.1 ∙ there in
    let nibbles : d ∷ leads.0 ≡ path = cc e in
    ap (λ (x : Spot). spot x.lane (d ∷ x.path)) (sym one) ∙ ap (spot l) nibbles

pub head_does : (h : WorldValue) (k at l node d offset value j : ℕ) (p after : Pass) (b : Book) (f : Flight) → IsLivePass h k p → HoldsInFlight p j b f
    → f.offset ≡ offset → IsWhole (layout h.shape) (draft f.row f.filled) → has f.linked l ≡ false → LeadsTo h p f.row l node d
    → at ≡ place_of h.shape (head_word node d b.writer) → value ≡ offset + 1 → after ≡ pass_with_book j (book_with_head l b f) p
    → IsEvent (layout h.shape) (world_of h) k (acts (store_head l node d offset)) (record { words = set h.words at value; passes = set h.passes k after })
head_does h k at l node d offset value j p after b f live flies off whole fresh leads e v pass =
    let sh = layout h.shape in
    subst (λ (o : ℕ). IsEvent sh (world_of h) k (acts (store_head l node d o)) (record { words = set h.words at value; passes = set h.passes k after })) off
    (does_step sh (world_of h) k p (store_head l node d f.offset) (head_slot sh.sizes node d b.writer) (λ n. suc f.offset)
    (λ n es. pass_with_book j (book_with_head l b f) p) at value after live
    (heads j l d node leads.0 b f flies (whole_any sh (draft f.row f.filled) (ticket_of b.writer f) refl refl whole) fresh leads.1 leads.2) e
    (let n : value ≡ suc f.offset = omega (arith, off, v) in n) pass)

pub head_only : (h : WorldValue) (k l node d offset j : ℕ) (p : Pass) (b : Book) (f : Flight) (y : World) → IsLawfulWorld h → IsLivePass h k p
    → HoldsInFlight p j b f → f.offset ≡ offset → IsEvent (layout h.shape) (world_of h) k (acts (store_head l node d offset)) y
    → IsWhole (layout h.shape) (draft f.row f.filled) × (has f.linked l ≡ false) × LeadsTo h p f.row l node d
head_only h k l node d offset j p b f y is live flies off does =
    let sh = layout h.shape in
    let A = acts_of sh (world_of h) k (store_head l node d offset) y does in
    let r = heads_of sh A.pass l node d offset A.slot A.change A.after A.step in
    let same = live_one h k A.pass p A.live live in
    let there : HoldsInFlight p r.place r.book r.flight = subst (λ (q : Pass). HoldsInFlight q r.place r.book r.flight) same r.flies in
    let one = same_flight h k r.place j p r.book b r.flight f is live there flies (r.offset ∙ sym off) in (
      whole_any sh (ticket_of r.book.writer r.flight) (draft f.row f.filled) (ap (λ (g : Flight). g.row) one.1) (ap (λ (g : Flight). g.filled) one.1) r.whole,
      ap (λ (g : Flight). has g.linked l) (sym one.1) ∙ r.fresh,
      (r.above, ap (λ (g : Flight). path_in h.shape g.row l) (sym one.1) ∙ r.leads, subst (λ (q : Pass). Knows q (spot l r.above) node) same r.known),
    )

pub head_none : (h : WorldValue) (k l node d offset : ℕ) (p : Pass) (y : World) → IsLivePass h k p → NoneFlies p offset
    → IsEvent (layout h.shape) (world_of h) k (acts (store_head l node d offset)) y → ⊥
head_none h k l node d offset p y live none does =
    let sh = layout h.shape in
    let A = acts_of sh (world_of h) k (store_head l node d offset) y does in
    let r = heads_of sh A.pass l node d offset A.slot A.change A.after A.step in
    let same = live_one h k A.pass p A.live live in
    none r.place r.book r.flight (subst (λ (q : Pass). HoldsInFlight q r.place r.book r.flight) same r.flies) r.offset
