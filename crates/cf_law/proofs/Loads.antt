-- Loads, and growing knowledge, keep the law of a pass.
use Rattle.std.proofs.Common.{◌≡◌, ℕ, ◌%◌, ◌^◌, ◌<◌, ◌≤◌, ◌⊎◌, ◌==◌, zero, suc, List, [], ◌∷◌, length, get_or, take, Option, Some, None, slice_get, cond, Bool, false, inl, inr, refl, arith, ap, sym, ◌∙◌, subst}
use Rattle.cf_row.proofs.Truths.{eq_from, eq_true}
use Rattle.cf_row.specs.declared.row.Entry.{Entry}
use Rattle.cf_shape.specs.Places.{head_slot}
use Rattle.std.specs.Bool.{nat_lt}
use Rattle.std.proofs.lemmas.Bool.{cases_lt, cases_Bool}
use Rattle.std.proofs.lemmas.Option.{slice_get_within}
use Rattle.cf_shape.specs.Places.{Slot, place, IsReal, Sizes}
use Rattle.cf_shape.specs.Places.Slot.{tail, cell}
use Rattle.cf_law.specs.Words.{Spot, spot, Layout, Ticket, NodeStock, node_at, IsNamedBy, is_inner, ticket_word, done_word, full_word, tail_word}
use Rattle.cf_shape.specs.Uses.Use.{version}
use Rattle.cf_law.specs.Law.{LayoutLaw}
use Rattle.cf_law.specs.Passes.{Cursor, Pass}
use Rattle.cf_law.specs.Steps.{pass_with_look, pass_that_sees, pass_with_node, met_of, cursor_after_cell, Reaches}
use Rattle.cf_law.specs.Lawful.{Base, BaseLaw, front, Known, CursorLaw, CursorIs, Leads, DoneAt, PassLaw}
use Rattle.cf_law.specs.Events.{word_at, entries_spelled}
use Rattle.cf_law.proofs.Passes.{WalkLaw, met_law, walk_begins, walk_goes, head_word, previous_word}
use Rattle.cf_law.proofs.Fronts.{front_length, front_take, spelt_front}

pub place_tail : (g : Sizes) (k : ℕ) → place g (tail k) ≡ k
unfolding place
place_tail g k = refl

abbrev gone_on : Cursor → ℕ → ℕ → Cursor
gone_on c o n = record { writer = c.writer; spot = c.spot; link = n % 2 ^ 32; gone = o ∷ c.gone; met = (o, c.writer) ∷ c.met }

pub reached : (m : ℕ) (bs : List NodeStock) (p : Pass) (l : ℕ) (q : List ℕ) (t : Slot)
    → ((i : ℕ) (x : Spot × ℕ) → slice_get p.known i ≡ Some x → node_at m bs x.1 ≡ Some x.0) → Reaches p l q t → IsNamedBy m bs l q t
reached m bs p l [] t known h = absurd h
reached m bs p l (d ∷ []) t known h = h
reached m bs p l (d ∷ (e ∷ q)) t known h = (h.0, known h.1 _ h.2, h.3, h.4)

-- the lane of a child word is a lane
pub child_lane : (sh : Layout) (m : Base) (p : Pass) (l : ℕ) (q : List ℕ) (t : Slot) → BaseLaw sh m → PassLaw sh m p → IsReal sh.sizes t → Reaches p l q t
    → l < sh.sizes.lanes
child_lane sh m p l [] t law knows real h = absurd h
child_lane sh m p l (d ∷ []) t law knows real h = (subst (IsReal sh.sizes) h real).0
child_lane sh m p l (d ∷ (e ∷ q)) t law knows real h = (law.nodes.shaped h.0 (spot l (e ∷ q)) (knows.known h.1 _ h.2)).0

pub tail_is : (sh : Layout) (m : Base) (k : ℕ) → BaseLaw sh m → k < 2 → word_at sh m.words (tail k) ≡ tail_word m.tails k
tail_is sh m k law lt = law.spells (tail k) lt

-- what the words below the read tail spell
pub spelt_is : (sh : Layout) (m : Base) (words : List ℕ) → LayoutLaw sh → BaseLaw sh m → m.words ≡ words
    → entries_spelled sh words (word_at sh words (tail 1)) ≡ front m.tails.1 m.log
spelt_is sh m words shaped law same =
    ap (λ (ws : List ℕ). entries_spelled sh ws (word_at sh ws (tail 1))) (sym same)
    ∙ (ap (entries_spelled sh m.words) (tail_is sh m 1 law (omega arith)) ∙ spelt_front sh m m.tails.1 shaped law (omega arith))

-- a done word found 1 is that of a finished ticket
done_from_word : (sh : Layout) (log : List Ticket) (o i v : ℕ) (t : Option Ticket) → slice_get log o ≡ t → suc i ≡ sh.sizes.ticket_words
    → v ≡ ticket_word sh log o i t → v ≡ 1 → DoneAt log o
done_from_word sh log o i v None at last word one = absurd (cc (word, one))
done_from_word sh log o i v (Some t) at last word one =
    let e : ticket_word sh log o i (Some t) ≡ done_word t.is_done =
    ap (λ (b : Bool). cond b (done_word t.is_done) (cond (nat_lt i t.filled) (full_word sh log o t i) 0)) (eq_true (suc i) sh.sizes.ticket_words last) in (
      t,
      at,
      elim (cases_Bool t.is_done) [
        | inl d ↦ d
        | inr d ↦ absurd (cc (word, one, e, ap done_word d))
      ],
    )

pub done_found : (sh : Layout) (m : Base) (o i : ℕ) → BaseLaw sh m → o < sh.sizes.tickets → suc i ≡ sh.sizes.ticket_words → word_at sh m.words (cell o i) ≡ 1
    → DoneAt m.log o
done_found sh m o i law lt last one =
    done_from_word sh m.log o i (word_at sh m.words (cell o i)) (slice_get m.log o) refl last (law.spells (cell o i) (lt, omega arith)) one

pub looked_law : (sh : Layout) (m : Base) (p : Pass) (word v : ℕ) → BaseLaw sh m → get_or m.words word 0 ≡ v → PassLaw sh m p
    → PassLaw sh m (pass_with_look word v p)
looked_law sh m p word v law found old = record {
  within = old.within;
  seen = old.seen;
  olds = old.olds;
  known = old.known;
  walk = old.walk;
  look = λ o i lt last is one. done_found sh m o i law lt last (ap (λ (n : ℕ). get_or m.words n 0) (sym is) ∙ (found ∙ one));
  books = old.books;
  ends = old.ends;
}

pub tails_law : (sh : Layout) (m : Base) (p : Pass) (ts : List ℕ) → PassLaw sh m p → PassLaw sh m (record p { tails = ts })
tails_law sh m p ts old =
    record { within = old.within; seen = old.seen; olds = old.olds; known = old.known; walk = old.walk; look = old.look; books = old.books; ends = old.ends }

pub cursor_law : (sh : Layout) (m : Base) (p : Pass) (c : Option Cursor) → CursorIs sh m.log (length p.seen) c → PassLaw sh m p
    → PassLaw sh m (record p { cursor = c })
cursor_law sh m p c new old =
    record { within = old.within; seen = old.seen; olds = old.olds; known = old.known; walk = new; look = old.look; books = old.books; ends = old.ends }

learn_known : (sh : Layout) (bs : List NodeStock) (s : Spot) (n : ℕ) (xs : List (Spot × ℕ)) → Known sh bs (s, n)
    → ((i : ℕ) (x : Spot × ℕ) → slice_get xs i ≡ Some x → Known sh bs x)
    → (i : ℕ) (x : Spot × ℕ) → slice_get ((s, n) ∷ xs) i ≡ Some x → Known sh bs x
learn_known sh bs s n xs new old zero x h = let same : ◌≡◌ {A = Spot × ℕ} (s, n) x = cc h in subst (Known sh bs) same new
learn_known sh bs s n xs new old (suc i) x h = old i x h

pub learn_law : (sh : Layout) (m : Base) (p : Pass) (s : Spot) (n : ℕ) → Known sh m.stocks (s, n) → PassLaw sh m p → PassLaw sh m (pass_with_node s n p)
learn_law sh m p s n new old =
    record {
      within = old.within;
      seen = old.seen;
      olds = old.olds;
      known = learn_known sh m.stocks s n p.known new old.known;
      walk = old.walk;
      look = old.look;
      books = old.books;
      ends = old.ends;
    }

-- `seen` grows, and then the cursor ends
pub sees_law : (sh : Layout) (m : Base) (p : Pass) (n : ℕ) (es : List Entry) → BaseLaw sh m → n ≤ m.tails.1 → es ≡ front m.tails.1 m.log → PassLaw sh m p
    → PassLaw sh m (pass_that_sees n es p)
sees_law sh m p n es law le spelt_here old = go (nat_lt (length p.seen) n) (cases_lt (length p.seen) n)
  where
    go : (b : Bool) → ((length p.seen < n) ⊎ (n ≤ length p.seen))
        → PassLaw sh m (cond (nat_lt (length p.seen) n) (record p { seen = take n es; cursor = None }) p)
    go b (inr ge) =
        subst (λ (c : Bool). PassLaw sh m (cond c (record p { seen = take n es; cursor = None }) p))
        (sym (Rattle.cf_row.proofs.Truths.lt_false (length p.seen) n (λ h. omega arith))) old
    go b (inl lt) =
        let seen : take n es ≡ front n m.log = ap (take n) spelt_here ∙ front_take m.log n m.tails.1 le in
        let len : length (take n es) ≡ n = ap (length {A = Entry}) seen ∙ front_length m.log n (omega (arith, law.covered)) in
        subst (λ (c : Bool). PassLaw sh m (cond c (record p { seen = take n es; cursor = None }) p))
        (sym (Rattle.cf_row.proofs.Truths.lt_true (length p.seen) n lt)) (record {
          within = omega (arith, len);
          seen = seen ∙ ap (λ (k : ℕ). front k m.log) (sym len);
          olds = λ k old_seen at. let h = old.olds k old_seen at in ((let q = h.0 in omega (arith, len)), h.1);
          known = old.known;
          walk = tt;
          look = old.look;
          books = old.books;
          ends = old.ends;
        })

walk_law : (sh : Layout) (m : Base) (seen : ℕ) → BaseLaw sh m → seen ≤ m.tails.1 → WalkLaw sh m.log seen
walk_law sh m seen law le = record {
  full = law.full;
  linked = λ o l t p lt at leads. law.linked o l t p at (law.done o t (omega arith) at) leads;
  within = omega (arith, law.covered);
}

-- a head begins a walk
pub head_walk : (sh : Layout) (m : Base) (p : Pass) (n d w l : ℕ) (q : List ℕ) → BaseLaw sh m → PassLaw sh m p
    → IsReal sh.sizes (head_slot sh.sizes n d w) → w < sh.sizes.writers → node_at sh.sizes.nodes m.stocks n ≡ Some (spot l q) → is_inner sh (spot l q) ≡ false
    → CursorLaw sh m.log (length p.seen)
    (record { writer = w; spot = spot l (d ∷ q); link = word_at sh m.words (head_slot sh.sizes n d w); gone = []; met = met_of p.cursor })
head_walk sh m p n d w l q law old real lt node outer =
    subst (λ (v : ℕ). CursorLaw sh m.log (length p.seen) (record { writer = w; spot = spot l (d ∷ q); link = v; gone = []; met = met_of p.cursor }))
    (sym (head_word sh m.tails m.log m.stocks m.words n d w l q real lt node outer law.spells))
    (walk_begins sh m.log (length p.seen) w (spot l (d ∷ q)) (met_of p.cursor) (walk_law sh m (length p.seen) law old.within)
    (met_law sh m.log (length p.seen) p.cursor old.walk))

-- the cell that the cursor names leads it on
pub cell_goes : (sh : Layout) (m : Base) (p : Pass) (o k : ℕ) (c : Cursor) → BaseLaw sh m → length p.seen ≤ m.tails.1 → sh.use_of k ≡ version c.spot.lane 0
    → suc k < sh.sizes.ticket_words → sh.sizes.tickets < 2 ^ 32
    → c.link ≡ suc o → CursorLaw sh m.log (length p.seen) c → CursorLaw sh m.log (length p.seen) (gone_on c o (word_at sh m.words (cell o k)))
cell_goes sh m p o k c law le is within small link walk =
    let leads = subst (Leads sh m.log c) link walk.leads in
    subst (λ (v : ℕ). CursorLaw sh m.log (length p.seen)
    (record { writer = c.writer; spot = c.spot; link = v; gone = o ∷ c.gone; met = (o, c.writer) ∷ c.met }))
    (sym (previous_word sh m.tails m.log m.stocks m.words c o k leads is within
    (omega (arith, slice_get_within m.log o leads.0 leads.1, law.room)) small law.spells))
    (walk_goes sh m.log (length p.seen) c o (walk_law sh m (length p.seen) law le) link walk)

-- a cell leads it on
pub cell_walk : (sh : Layout) (m : Base) (p : Pass) (o l i k : ℕ) (c : Option Cursor) → BaseLaw sh m → length p.seen ≤ m.tails.1 → sh.use_of k ≡ version l i
    → suc k < sh.sizes.ticket_words → sh.sizes.tickets < 2 ^ 32
    → CursorIs sh m.log (length p.seen) c → CursorIs sh m.log (length p.seen) (cursor_after_cell o l i (word_at sh m.words (cell o k)) c)
cell_walk sh m p o l i k None law le is within small walk = tt
cell_walk sh m p o l (suc i) k (Some c) law le is within small walk = walk
cell_walk sh m p o l zero k (Some c) law le is within small walk = elim (cases_Bool (c.link == suc o)) [
  | inr e ↦ subst
      (λ (b : Bool). CursorIs sh m.log (length p.seen)
      (cond b (cond (c.spot.lane == l) (Some (gone_on c o (word_at sh m.words (cell o k)))) (Some c)) (Some c))) (sym e) walk
  | inl e ↦ subst
      (λ (b : Bool). CursorIs sh m.log (length p.seen)
      (cond b (cond (c.spot.lane == l) (Some (gone_on c o (word_at sh m.words (cell o k)))) (Some c)) (Some c))) (sym e) (elim (cases_Bool (c.spot.lane == l)) [
        | inr f ↦ subst (λ (b : Bool). CursorIs sh m.log (length p.seen) (cond b (Some (gone_on c o (word_at sh m.words (cell o k)))) (Some c))) (sym f) walk
        | inl f ↦ subst (λ (b : Bool). CursorIs sh m.log (length p.seen) (cond b (Some (gone_on c o (word_at sh m.words (cell o k)))) (Some c))) (sym f)
            (go (eq_from c.link (suc o) e) (eq_from c.spot.lane l f))
      ])
]
  where
    go : c.link ≡ suc o → c.spot.lane ≡ l → CursorLaw sh m.log (length p.seen) (gone_on c o (word_at sh m.words (cell o k)))
    go link lane = cell_goes sh m p o k c law le (is ∙ ap (λ (x : ℕ). version x 0) (sym lane)) within small link walk
