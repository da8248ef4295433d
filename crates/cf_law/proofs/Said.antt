-- The laws of a lawful world, each in plain words.
use Rattle.std.proofs.Common.{◌≡◌, ℕ, ◌+◌, ◌<◌, ◌≤◌, ◌⊎◌, ◌==◌, suc, List, [], ◌∷◌, length, set, take, Option, Some, None, slice_get, cond, Bool, inl, inr, refl, arith, ap, sym, ◌∙◌, subst}
use Rattle.std.specs.Bool.{nat_lt}
use Rattle.std.proofs.lemmas.Option.{slice_get_within}
use Rattle.cf_row.proofs.Truths.{eq_false, eq_true, lt_false, lt_true}
use Rattle.cf_row.specs.declared.row.Entry.{Entry}
use Rattle.cf_shape.specs.Lanes.{ShapeValue}
use Rattle.cf_shape.specs.Places.{place}
use Rattle.cf_shape.specs.Places.Slot.{tail, cell}
use Rattle.cf_law.specs.Words.{Layout, Ticket, ticket_word, done_word, full_word}
use Rattle.cf_law.specs.Law.{LayoutLaw}
use Rattle.cf_law.specs.Passes.{Cursor, Pass}
use Rattle.cf_law.specs.Lawful.{Base, BaseLaw, PassLaw, CursorLaw, CursorIs, Leads, Stands, Lawful, World, book_at}
use Rattle.cf_law.specs.Events.{WorldEvent, IsEvent, opening, no_book, tabulated, word_at, entries_spelled}
use Rattle.cf_law.specs.Events.IsEvent.{steps, parts, meets}
use Rattle.cf_law.specs.Shapes.{layout}
use Rattle.cf_law.specs.Readers.{Tells}
use Rattle.cf_law.specs.Plainly.{SaysPlainly}
use Rattle.cf_law.specs.PlainPasses.{SaysOfPasses, LawfulSaysAllPlainly}
use Rattle.cf_law.specs.Laws.{Plays, EveryListKeepsTheLaw, OpeningIsEmpty, ReadTailCoversFinished, WriteTailIsBounded, SeenNeverChanges, WordsTell, StepsTell}
use Rattle.cf_law.proofs.Nodes.{node_within}
use Rattle.std.proofs.lemmas.Nat.{mul-add-lt}
use Rattle.cf_law.proofs.Bases.{evolves_self}
use Rattle.cf_law.proofs.Shapes.{layout_law}
use Rattle.cf_law.proofs.Passes.{no_gap, head_word, known_holds, Evolves}
use Rattle.cf_law.proofs.Loads.{tail_is}
use Rattle.cf_law.proofs.Steps.{step_keeps}
use Rattle.cf_law.proofs.Moves.{split_keeps, join_keeps}
use Rattle.cf_law.proofs.Runs.{kept, opening_lawful}
use Rattle.cf_law.proofs.Readers.{tells, step_lawful, write_tail_most, path_whole, named_spells, at_seen, seen_at, entry_tells}
use Rattle.cf_law.proofs.Tells.{label_tells, child_tells, named_once, unused_tells, spare_tells}
use Rattle.cf_law.proofs.Homes.{done_one}
use Rattle.cf_law.proofs.Fronts.{front_take}

ticket_is : (sh : Layout) (m : Base) (o i : ℕ) → BaseLaw sh m → o < sh.sizes.tickets → i < sh.sizes.ticket_words
    → word_at sh m.words (cell o i) ≡ ticket_word sh m.log o i (slice_get m.log o)
ticket_is sh m o i law lo li = law.spells (cell o i) (lo, li)

within : (sh : Layout) (m : Base) (o : ℕ) (t : Ticket) → BaseLaw sh m → slice_get m.log o ≡ Some t → o < sh.sizes.tickets
within sh m o t law at = omega (arith, slice_get_within m.log o t at, law.room)

last_word : (sh : Layout) (m : Base) (o i : ℕ) (t : Ticket) → suc i ≡ sh.sizes.ticket_words → ticket_word sh m.log o i (Some t) ≡ done_word t.is_done
last_word sh m o i t last =
    ap (λ (b : Bool). cond b (done_word t.is_done) (cond (nat_lt i t.filled) (full_word sh m.log o t i) 0)) (eq_true (suc i) sh.sizes.ticket_words last)

other_word : (sh : Layout) (m : Base) (o i : ℕ) (t : Ticket) → suc i < sh.sizes.ticket_words
    → ticket_word sh m.log o i (Some t) ≡ cond (nat_lt i t.filled) (full_word sh m.log o t i) 0
other_word sh m o i t lt =
    ap (λ (b : Bool). cond b (done_word t.is_done) (cond (nat_lt i t.filled) (full_word sh m.log o t i) 0))
    (eq_false (suc i) sh.sizes.ticket_words (λ e. omega arith))

pub says : (sh : Layout) (m : Base) (passes : List Pass) → LayoutLaw sh → Stands sh m passes → SaysPlainly sh m passes
says sh m passes shaped S = let law = S.law in record {
  tickets = law.room;
  write_tail = tail_is sh m 0 law (omega arith) ∙ law.marks;
  mark = law.ends;
  read_tail = (let e = tail_is sh m 1 law (omega arith) in let c = law.covered in omega (arith, e, c));
  covered = λ o t lt at. law.done o t (let e = tail_is sh m 1 law (omega arith) in omega (arith, e, lt)) at;
  done = λ o i t at last. ticket_is sh m o i law (within sh m o t law at) (omega arith) ∙ (ap (ticket_word sh m.log o i) at ∙ last_word sh m o i t last);
  filled = λ o i t at lt f. ticket_is sh m o i law (within sh m o t law at) (omega arith)
      ∙ (ap (ticket_word sh m.log o i) at ∙ (other_word sh m o i t lt ∙ ap (λ (b : Bool). cond b (full_word sh m.log o t i) 0) (lt_true i t.filled f)));
  unfilled = λ o i t at lt f. ticket_is sh m o i law (within sh m o t law at) (omega arith)
      ∙ (ap (ticket_word sh m.log o i) at
      ∙ (other_word sh m o i t lt ∙ ap (λ (b : Bool). cond b (full_word sh m.log o t i) 0) (lt_false i t.filled (λ h. omega arith))));
  empty = λ o i lo li at. ticket_is sh m o i law lo li ∙ ap (ticket_word sh m.log o i) at;
  head = λ node d w l q at leaf dl wl. head_word sh m.tails m.log m.stocks m.words node d w l q (
    node_within sh.sizes.nodes sh.sizes.writers m.stocks node _ law.nodes.writers law.nodes.room at,
    omega (arith, mul-add-lt d sh.sizes.writers w 16 dl wl),
  ) wl at (lt_false (suc (length q)) (sh.levels l) (λ h. omega (arith, leaf))) law.spells;
  label = λ n s at. label_tells sh m n s law at;
  child = λ n s t child found. child_tells sh m n s t law child found;
  once = λ n s r t u a b e f. named_once sh m n s r t u law a b e f;
  unused = λ n j real at. unused_tells sh m n j law real at;
  spare = λ w room real. spare_tells sh m w law room real;
  linked = λ o l t p at done leads. law.linked o l t p at done leads;
  path = λ o l t d xs e p at linked leads. path_whole sh m o l t d xs e p law at linked leads;
  known = λ k i n p s t at there real named. known_holds sh m.tails m.log m.stocks m.words (s, n) t law.nodes law.spells
      ((S.knows k p at).known i (s, n) there) real named;
  cursor = λ k o i p c at cursor link lane small.
      (let P = S.knows k p at in let walk : CursorLaw sh m.log (length p.seen) c = subst (CursorIs sh m.log (length p.seen)) cursor P.walk in
      let word = shaped.cells c.spot.lane lane in named_spells sh m (length p.seen) c o i word.0 0 shaped law walk link word.2 word.1 small);
}

-- What it says of tickets' writers, books, and of what passes have seen and know.
walk_of : (sh : Layout) (m : Base) (passes : List Pass) (k : ℕ) (p : Pass) (c : Cursor) → Stands sh m passes → slice_get passes k ≡ Some p → p.cursor ≡ Some c
    → CursorLaw sh m.log (length p.seen) c
walk_of sh m passes k p c S at cursor = subst (CursorIs sh m.log (length p.seen)) cursor (S.knows k p at).walk

says_of_passes : (sh : Layout) (m : Base) (passes : List Pass) → LayoutLaw sh → Stands sh m passes → SaysOfPasses sh m passes
says_of_passes sh m passes shaped S = let law = S.law in record {
  writer = law.writers;
  whole = law.whole;
  held = S.held;
  one = S.once;
  book = λ k i w h. (let b = (S.knows k h.pass h.at).books i h.book h.held in b.1 ∙ ap (book_at m) h.writer);
  seen = λ k o p e at there.
      (let P = S.knows k p at in let s = seen_at sh m p o e law P there in let lt = s.4 in let within = P.within in let t = tail_is sh m 1 law (omega arith) in
      (omega (arith, lt, within, t), s.0, s.1, s.2, s.3));
  spells = λ k o i p e at there small. (entry_tells sh m p o i shaped law (S.knows k p at)).plains e there small;
  olds = λ k j p old at there. (let P = S.knows k p at in let x = P.olds j old there in
      ap (λ (es : List Entry). take (length old) es) P.seen ∙ (front_take m.log (length old) (length p.seen) x.0 ∙ sym x.1));
  look = λ k o i p at lt last word value. (let d = (S.knows k p at).look o i lt last word value in done_one sh m o i d.0 law d.1 d.2 last);
  named = λ k o p c at cursor link.
      (let walk = walk_of sh m passes k p c S at cursor in let leads = subst (Leads sh m.log c) link walk.leads in (leads.0, leads.1, leads.4));
  left = λ k o p c e at cursor there stands. (let s = seen_at sh m p o e law (S.knows k p at) there in
      (walk_of sh m passes k p c S at cursor).left o s.0 s.4 s.1 (sym (ap (λ (x : Entry). x.writer) s.3) ∙ stands.0)
      (ap (λ (x : Entry). sh.path x.row c.spot.lane) (sym s.3) ∙ stands.1));
}

pub lawful_says_plainly : LawfulSaysAllPlainly
lawful_says_plainly s words passes is law = (
  law.base,
  law.spelled,
  says (layout s) law.base passes (layout_law s is) law.stands,
  says_of_passes (layout s) law.base passes (layout_law s is) law.stands,
)

plays_kept : (sh : Layout) (x : World) (es : List (ℕ × WorldEvent)) (y : World) → LayoutLaw sh → Lawful sh x.words x.passes → Plays sh x es y
    → Lawful sh y.words y.passes
plays_kept sh x [] y shaped law run = subst (λ (z : World). Lawful sh z.words z.passes) (sym run) law
plays_kept sh x (e ∷ es) y shaped law run = elim run.1 [
  | inl does ↦ plays_kept sh run.0 es y shaped (kept sh x e.0 e.1 run.0 shaped law does) run.2
  | inr none ↦ plays_kept sh run.0 es y shaped (subst (λ (z : World). Lawful sh z.words z.passes) (sym none.0) law) run.2
]

pub every_list_keeps_the_law : EveryListKeepsTheLaw
every_list_keeps_the_law s es y is run = plays_kept (layout s) (opening (layout s)) es y (layout_law s is) (opening_lawful (layout s)) run

pub opening_is_empty : OpeningIsEmpty
opening_is_empty = record {
  words = λ s. refl;
  one = λ s. refl;
  root = λ s p at. (root_seen s p at, root_books s p at);
  lawful = λ s. opening_lawful (layout s);
}
  where
    root_seen : (s : ShapeValue) (p : Pass) → slice_get (opening (layout s)).passes 0 ≡ Some p → p.seen ≡ []
    root_seen s p at = let same : Rattle.cf_law.specs.Steps.new_pass (tabulated no_book s.writers) [] ≡ p = cc at in ap (λ (q : Pass). q.seen) (sym same)

    root_books : (s : ShapeValue) (p : Pass) → slice_get (opening (layout s)).passes 0 ≡ Some p → p.books ≡ tabulated no_book s.writers
    root_books s p at = let same : Rattle.cf_law.specs.Steps.new_pass (tabulated no_book s.writers) [] ≡ p = cc at in ap (λ (q : Pass). q.books) (sym same)

covers : (sh : Layout) (m : Base) (o i : ℕ) → BaseLaw sh m → o < word_at sh m.words (tail 1) → suc i ≡ sh.sizes.ticket_words → word_at sh m.words (cell o i) ≡ 1
covers sh m o i law lt last = go (slice_get m.log o) refl
  where
    go : (x : Option Ticket) → slice_get m.log o ≡ x → word_at sh m.words (cell o i) ≡ 1
    go None e = absurd (no_gap m.log o (let t = tail_is sh m 1 law (omega arith) in let c = law.covered in omega (arith, t, c, lt)) e)
    go (Some t) e = done_one sh m o i t law e (law.done o t (let u = tail_is sh m 1 law (omega arith) in omega (arith, u, lt)) e) last

pub read_tail_covers_finished : ReadTailCoversFinished
read_tail_covers_finished s words passes o i is law lt last =
    let m = law.base in
    ap (λ (ws : List ℕ). word_at (layout s) ws (cell o i)) (sym law.spelled)
    ∙ covers (layout s) m o i law.stands.law (subst (λ (ws : List ℕ). o < word_at (layout s) ws (tail 1)) (sym law.spelled) lt) last

pub write_tail_is_bounded : WriteTailIsBounded
write_tail_is_bounded s words passes is law = write_tail_most (layout s) words passes law

-- Over events the tickets evolve.
pub record Goes (sh : Layout) (m : Base) (y : World) : Type 0 where
  pub base : Base
  pub words : base.words ≡ y.words
  pub stands : Stands sh base y.passes
  pub evolves : Evolves m.log base.log
  pub more : length m.log ≤ length base.log

evolves_on : (log new late : List Ticket) → Evolves log new → Evolves new late → Evolves log late
evolves_on log new late a b o t at = let u = a o t at in let v = b o u.0 u.1 in (
  v.0,
  v.1,
  record {
    writer = (v.2).writer ∙ (u.2).writer;
    row = (v.2).row ∙ (u.2).row;
    filled = (let f = (u.2).filled in let g = (v.2).filled in omega (arith, f, g));
    done = λ d. (v.2).done ((u.2).done d);
  },
)

evolves_length : (log new : List Ticket) → Evolves log new → length log ≤ length new
evolves_length [] new ev = omega arith
evolves_length (t ∷ ts) new ev = go (length ts) (slice_get (t ∷ ts) (length ts)) refl
  where
    go : (n : ℕ) → (x : Option Ticket) → slice_get (t ∷ ts) (length ts) ≡ x → suc (length ts) ≤ length new
    go n None e = absurd (no_gap (t ∷ ts) (length ts) (omega arith) e)
    go n (Some u) e = let v = ev (length ts) u e in let lt = slice_get_within new (length ts) v.0 v.1 in omega (arith, lt)

goes_one : (sh : Layout) (m : Base) (x : World) (k : ℕ) (e : WorldEvent) (y : World) → LayoutLaw sh → m.words ≡ x.words → Stands sh m x.passes
    → IsEvent sh x k e y → Goes sh m y
goes_one sh m x k e y shaped same S (steps p a t f g live step) =
    let words : List ℕ = set x.words (place sh.sizes t) (f (word_at sh x.words t)) in
    let is : words ≡ set m.words (place sh.sizes t) (f (word_at sh m.words t)) =
    ap (λ (ws : List ℕ). set ws (place sh.sizes t) (f (word_at sh ws t))) (sym same) in
    let n = step_keeps sh m x.passes k p a t f g shaped S live.0 step words is in record {
      base = n.0;
      words = n.1 ∙ sym is;
      stands = subst (λ (v : ℕ). Stands sh n.0 (set x.passes k (g v (entries_spelled sh words (word_at sh words (tail 1))))))
          (ap (λ (ws : List ℕ). word_at sh ws t) same) n.2;
      evolves = (n.3).0;
      more = evolves_length m.log (n.0).log (n.3).0;
    }
goes_one sh m x k e y shaped same S (parts p left right w live split) =
    record { base = m; words = same; stands = split_keeps sh m x.passes k p left right w S live.0 split; evolves = evolves_self m.log; more = omega arith }
goes_one sh m x k e y shaped same S (meets p q j live other ne rest) =
    record { base = m; words = same; stands = join_keeps sh m x.passes k j p q S live.0 other.0 ne live.1; evolves = evolves_self m.log; more = omega arith }

goes_all : (sh : Layout) (m : Base) (x : World) (es : List (ℕ × WorldEvent)) (y : World) → LayoutLaw sh → m.words ≡ x.words → Stands sh m x.passes
    → Plays sh x es y → Goes sh m y
goes_all sh m x [] y shaped same S run =
    subst (λ (z : World). Goes sh m z) (sym run) (record { base = m; words = same; stands = S; evolves = evolves_self m.log; more = omega arith })
goes_all sh m x (e ∷ es) y shaped same S run = elim run.1 [
  | inl does ↦
      let a = goes_one sh m x e.0 e.1 run.0 shaped same S does in
      let b = goes_all sh a.base run.0 es y shaped a.words a.stands run.2 in
      record {
        base = b.base;
        words = b.words;
        stands = b.stands;
        evolves = evolves_on m.log a.base.log b.base.log a.evolves b.evolves;
        more = (let f = a.more in let g = b.more in omega (arith, f, g));
      }
  | inr none ↦ goes_all sh m run.0 es y shaped (same ∙ ap (λ (z : World). z.words) (sym none.0))
      (subst (λ (z : World). Stands sh m z.passes) (sym none.0) S) run.2
]

pub seen_never_changes : SeenNeverChanges
seen_never_changes s x y es j k o p q is law run at there lp lq =
    let sh = layout s in
    let m = law.base in
    let G = goes_all sh m x es y (layout_law s is) law.spelled law.stands run in
    let P = law.stands.knows j p at in
    let Q = G.stands.knows k q there in
    go sh m G.base law.stands.law P Q G.evolves (slice_get m.log o) refl
  where
    go : (sh : Layout) (m n : Base) → BaseLaw sh m → PassLaw sh m p → PassLaw sh n q → Evolves m.log n.log → (z : Option Ticket) → slice_get m.log o ≡ z
        → slice_get p.seen o ≡ slice_get q.seen o
    go sh m n L P Q ev None e = absurd (no_gap m.log o (let w = P.within in let c = L.covered in omega (arith, w, c, lp)) e)
    go sh m n L P Q ev (Some t) e =
        let u = ev o t e in
        let b = u.2 in
        let a = at_seen sh m p o t P lp e in
        let c = at_seen sh n q o u.0 Q lq u.1 in
        let same : Rattle.cf_law.specs.Words.entry t.writer t.row ≡ Rattle.cf_law.specs.Words.entry (u.0).writer (u.0).row =
        Rattle.std.proofs.Common.ap₂ Rattle.cf_law.specs.Words.entry (sym b.writer) (sym b.row) in
        a ∙ (ap (λ (z : Entry). Some z) same ∙ sym c)

pub words_tell : WordsTell
words_tell s words passes k p t is law at =
    let m = law.base in
    subst (λ (ws : List ℕ). Tells (layout s) p t (word_at (layout s) ws t)) law.spelled
    (tells (layout s) m p t (layout_law s is) law.stands.law (law.stands.knows k p at))

pub steps_tell : StepsTell
steps_tell s words passes k p a t f g is law at step = let r = step_lawful (layout s) words passes k p a t f g (layout_law s is) law at step in
    (r.lawful, r.told)
