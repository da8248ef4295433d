-- What the law says of loads, in the terms of what a pass has seen and holds.
use Rattle.std.proofs.Common.{◌≡◌, ℕ, ◌+◌, ◌*◌, ◌/◌, ◌<◌, ◌≤◌, ◌⊎◌, ◌==◌, zero, suc, List, [], ◌∷◌, ◌++◌, length, set, get_or, take, ◌%◌, ◌^◌, Option, Some, None, slice_get, cond, Bool, true, false, inl, inr, refl, arith, ap, ap₂, sym, ◌∙◌, subst}
use Rattle.cf_row.proofs.Truths.{eq_from, eq_true, lt_false}
use Rattle.cf_row.specs.Row.{RowValue}
use Rattle.cf_row.specs.declared.row.Entry.{Entry}
use Rattle.cf_shape.specs.Places.{head_slot}
use Rattle.std.specs.Bool.{nat_lt}
use Rattle.std.proofs.lemmas.Nat.{mul-add-lt}
use Rattle.std.proofs.lemmas.List.{get_or-set_same}
use Rattle.std.proofs.lemmas.Bool.{cases_lt, cases_Bool}
use Rattle.std.proofs.lemmas.Option.{slice_get_within}
use Rattle.cf_shape.specs.Places.{Slot, place, IsReal}
use Rattle.cf_shape.specs.Places.Slot.{tail, cell}
use Rattle.cf_shape.specs.Uses.Use.{version}
use Rattle.cf_law.specs.Words.{marked_books, Spot, spot, Layout, entry, Ticket, NodeStock, stock_of, node_at, IsNamedBy, has, same_path, ticket_word, done_word, full_word, links, entry_at, chain, version_word, used_word, lane_word}
use Rattle.cf_law.specs.Law.{LayoutLaw, NodesLaw}
use Rattle.cf_law.specs.Passes.{Book, Flight, Cursor, Pass}
use Rattle.cf_law.specs.Steps.{HoldsInFlight, IsChild, Knows, Step, met_of, ticket_of, own_word}
use Rattle.cf_law.specs.Lawful.{Base, BaseLaw, front, CursorLaw, CursorIs, Leads, PassLaw, Stands, Lawful}
use Rattle.cf_law.specs.Events.{word_at, entries_spelled}
use Rattle.cf_law.specs.Readers.{NoneThrough, NoneOwn, pick_at, picks, WalkTells, EntryTells, IsFit, HasNode, IsBounded, AtHome, Tells, GoesOn, StepTells}
use Rattle.cf_law.proofs.Nodes.{node_of, node_within}
use Rattle.cf_shape.proofs.Slots.{place_within}
use Rattle.cf_law.proofs.Chains.{both, both_intro, same_bool, links_true, links_intro, same_path_true, same_path_intro, entry_linked, entry_unlinked}
use Rattle.cf_law.proofs.Links.{none_from_zero}
use Rattle.cf_law.proofs.Heads.{get_set_same}
use Rattle.cf_law.proofs.Passes.{no_gap, previous_word, top_within}
use Rattle.cf_law.proofs.Fronts.{front_at, front_get, front_take, front_length, front_evolves, word_filled, word_spells}
use Rattle.cf_law.proofs.Owned.{own_word_is}
use Rattle.cf_law.proofs.Homes.{mine_few}
use Rattle.cf_law.proofs.Owning.{mine_before, own_head_is, own_cell, mine_seen}
use Rattle.cf_law.proofs.Loads.{reached, tail_is, head_walk, spelt_is}
use Rattle.cf_law.proofs.Keeps.{aloft, Later}
use Rattle.cf_law.proofs.Steps.{step_keeps}
use Rattle.cf_law.proofs.Homes.{own_done, whole, stays}

marked_most : (bs : List NodeStock) → marked_books bs ≤ length bs
unfolding marked_books
marked_most [] = omega arith
marked_most (b ∷ bs) = elim (cases_Bool b.over) [
  | inl e ↦ omega (arith, marked_most bs, ap (λ (t : Bool). cond {A = ℕ} t 1 0) e)
  | inr e ↦ omega (arith, marked_most bs, ap (λ (t : Bool). cond {A = ℕ} t 1 0) e)
]

-- an entry that was seen is that of a finished ticket
pub seen_at : (sh : Layout) (m : Base) (p : Pass) (o : ℕ) (e : Entry) → BaseLaw sh m → PassLaw sh m p → slice_get p.seen o ≡ Some e
    → (t : Ticket) × (slice_get m.log o ≡ Some t) × (t.is_done ≡ true) × (e ≡ entry t.writer t.row) × (o < length p.seen)
seen_at sh m p o e law knows at =
    let f = front_at m.log (length p.seen) o e (ap (λ (es : List Entry). slice_get es o) (sym knows.seen) ∙ at) in
    let lt = f.0 in (f.1, f.2, law.done o f.1 (omega (arith, lt, knows.within)) f.2, f.3, lt)

pub at_seen : (sh : Layout) (m : Base) (p : Pass) (o : ℕ) (t : Ticket) → PassLaw sh m p → o < length p.seen → slice_get m.log o ≡ Some t
    → slice_get p.seen o ≡ Some (entry t.writer t.row)
at_seen sh m p o t knows lt at = ap (λ (es : List Entry). slice_get es o) knows.seen ∙ front_get m.log (length p.seen) o t lt at

-- a whole path: each nonempty proper end of it has a node
up : (sh : Layout) (bs : List NodeStock) (l n : ℕ) (xs : List ℕ) (e : ℕ) (p : List ℕ) → NodesLaw sh bs
    → node_at sh.sizes.nodes bs n ≡ Some (spot l (xs ++ e ∷ p))
    → (k : ℕ) × (node_at sh.sizes.nodes bs k ≡ Some (spot l (e ∷ p)))
up sh bs l n [] e p law at = (n, at)
up sh bs l n (x ∷ []) e p law at = law.parent n l x e p at
up sh bs l n (x ∷ (y ∷ xs)) e p law at = let h = law.parent n l x y (xs ++ e ∷ p) at in up sh bs l h.0 (y ∷ xs) e p law h.1

pub path_whole : (sh : Layout) (m : Base) (o l : ℕ) (t : Ticket) (d : ℕ) (xs : List ℕ) (e : ℕ) (p : List ℕ) → BaseLaw sh m → slice_get m.log o ≡ Some t
    → has t.linked l ≡ true
    → sh.path t.row l ≡ Some (d ∷ (xs ++ e ∷ p)) → (k : ℕ) × (node_at sh.sizes.nodes m.stocks k ≡ Some (spot l (e ∷ p)))
path_whole sh m o l t d xs e p law at linked leads =
    let y = law.leaves o t l at linked in
    let same : y.1 ≡ xs ++ e ∷ p = cc (y.3, leads) in
    up sh m.stocks l y.2 xs e p law.nodes (y.4 ∙ ap (λ (q : List ℕ). Some (spot l q)) same)

-- A child word found 0: no entry that was seen goes through it, and no own node stands for it.
pub none_through : (sh : Layout) (m : Base) (p : Pass) (s : Spot) (t : Slot) → BaseLaw sh m → PassLaw sh m p → IsChild sh p s t → word_at sh m.words t ≡ 0
    → NoneThrough sh p s
none_through sh m p s t law knows child zero_word o e d xs at leads = go s.path refl
  where
    go : (q : List ℕ) → s.path ≡ q → ⊥
    go [] f = absurd
        (subst (λ (q : List ℕ). IsNamedBy sh.sizes.nodes m.stocks s.lane q t) f (reached sh.sizes.nodes m.stocks p s.lane s.path t knows.known child.reaches))
    go (i ∷ q) f =
        let seen = seen_at sh m p o e law knows at in
        let leads' : sh.path seen.0.row s.lane ≡ Some (d ∷ (xs ++ i ∷ q)) = ap (λ (x : Entry). sh.path x.row s.lane) (sym seen.3)
        ∙ (leads ∙ ap (λ (c : List ℕ). Some (d ∷ (xs ++ c))) f) in
        let node = path_whole sh m o s.lane seen.0 d xs i q law seen.1 (law.linked o s.lane seen.0 _ seen.1 seen.2 leads') leads' in
        none_from_zero sh m.tails m.log m.stocks m.words s t child.inner child.real
        (reached sh.sizes.nodes m.stocks p s.lane s.path t knows.known child.reaches) law.spells zero_word node.0
        (node.1 ∙ ap (λ (c : List ℕ). Some (spot s.lane c)) (sym f))

pub none_own : (sh : Layout) (m : Base) (p : Pass) (s : Spot) (t : Slot) → BaseLaw sh m → PassLaw sh m p → IsChild sh p s t → word_at sh m.words t ≡ 0
    → NoneOwn p s
none_own sh m p s t law knows child zero_word k j b held used =
    let own = knows.books k b held in
    let there : slice_get (stock_of m.stocks b.writer).used j ≡ Some s = ap (λ (c : Book). slice_get c.used j) (sym own.1) ∙ used in
    none_from_zero sh m.tails m.log m.stocks m.words s t child.inner child.real
    (reached sh.sizes.nodes m.stocks p s.lane s.path t knows.known child.reaches) law.spells zero_word
    (b.writer * sh.sizes.nodes + j) (node_of sh.sizes.nodes m.stocks b.writer j s (law.nodes.room b.writer) there)

-- A walk, in the terms of what was seen.
pub walk_tells : (sh : Layout) (m : Base) (p : Pass) (c : Cursor) → BaseLaw sh m → PassLaw sh m p → CursorLaw sh m.log (length p.seen) c → WalkTells sh p.seen c
walk_tells sh m p c law knows walk = record {
  names = λ o link lt. (let h = subst (Leads sh m.log c) link walk.leads in
      (entry h.0.writer h.0.row, at_seen sh m p o h.0 knows lt h.1, (h.2, h.3)));
  left = λ i e at is. (let s = seen_at sh m p i e law knows at in
      walk.left i s.0 s.4 s.1 (ap (λ (x : Entry). x.writer) (sym s.3) ∙ is.0) (ap (λ (x : Entry). sh.path x.row c.spot.lane) (sym s.3) ∙ is.1));
  apart = λ o i w link at. (let h = subst (Leads sh m.log c) link walk.leads in
      let k = walk.met i (o, w) at in
      let same : h.0 ≡ k.0 = (let f : Some h.0 ≡ Some k.0 = sym h.1 ∙ k.1 in cc f) in
      sym k.2 ∙ (ap (λ (t : Ticket). t.writer) (sym same) ∙ h.2));
}

-- Below the read tail a chain has just the entries of the writer and leaf that were seen.
flat : (a b : Bool) (e : List (ℕ × RowValue)) → cond a (cond b e []) [] ≡ cond (cond a b false) e []
flat true b e = refl
flat false b e = refl

pick_same : (sh : Layout) (w : ℕ) (s : Spot) (o : ℕ) (t : Ticket) → ((p : List ℕ) → sh.path t.row s.lane ≡ Some p → has t.linked s.lane ≡ true)
    → entry_at sh w s o (Some t) ≡ pick_at sh w s o (Some (entry t.writer t.row))
pick_same sh w s o t linked =
    let test = cond (t.writer == w) (same_path (sh.path t.row s.lane) s.path) false in
    let same : links sh w s t ≡ test = same_bool _ _
    (λ h. let x = links_true sh w s t h in
    both_intro (t.writer == w) _ (eq_true t.writer w x.0) (ap (λ (q : Option (List ℕ)). same_path q s.path) x.2 ∙ same_path_intro s.path))
    (λ h. let x = both (t.writer == w) _ h in let p = same_path_true (sh.path t.row s.lane) s.path x.1 in
    links_intro sh w s t (eq_from t.writer w x.0) (linked s.path p) p) in
    elim (cases_Bool (links sh w s t)) [
      | inl l ↦ entry_linked sh w s o t l
          ∙ (ap (λ (b : Bool). cond b ((o, t.row) ∷ []) []) (sym l ∙ same)
          ∙ sym (flat (t.writer == w) (same_path (sh.path t.row s.lane) s.path) ((o, t.row) ∷ [])))
      | inr l ↦ entry_unlinked sh w s o t l
          ∙ (ap (λ (b : Bool). cond b ((o, t.row) ∷ []) []) (sym l ∙ same)
          ∙ sym (flat (t.writer == w) (same_path (sh.path t.row s.lane) s.path) ((o, t.row) ∷ [])))
    ]

pub chain_seen : (sh : Layout) (m : Base) (p : Pass) (w : ℕ) (s : Spot) (o : ℕ) → BaseLaw sh m → PassLaw sh m p → o ≤ length p.seen
    → chain sh m.log w s o ≡ picks sh w s p.seen o
unfolding chain picks
chain_seen sh m p w s zero law knows le = refl
chain_seen sh m p w s (suc o) law knows le =
    ap₂ (λ (e c : List (ℕ × RowValue)). e ++ c) (go (slice_get m.log o) refl) (chain_seen sh m p w s o law knows (omega arith))
  where
    go : (t : Option Ticket) → slice_get m.log o ≡ t → entry_at sh w s o (slice_get m.log o) ≡ pick_at sh w s o (slice_get p.seen o)
    go None e = absurd (no_gap m.log o (omega (arith, law.covered, knows.within)) e)
    go (Some t) e =
        ap (entry_at sh w s o) e
        ∙ (pick_same sh w s o t (λ q leads. law.linked o s.lane t q e (law.done o t (omega (arith, knows.within)) e) leads)
        ∙ ap (pick_at sh w s o) (sym (at_seen sh m p o t knows (omega arith) e)))

-- A word of an entry that was seen.
pub entry_tells : (sh : Layout) (m : Base) (p : Pass) (o k : ℕ) → LayoutLaw sh → BaseLaw sh m → PassLaw sh m p
    → EntryTells sh p.seen o k (word_at sh m.words (cell o k))
entry_tells sh m p o k shaped law knows = record {
  plains = λ e at small. (let s = seen_at sh m p o e law knows at in
      word_spells sh m o k s.0 shaped law s.1 s.2 small ∙ ap (λ (x : Entry). get_or (sh.spelled x.row x.writer) k 0) (sym s.3));
  cells = λ e l j q at within is leads. (let s = seen_at sh m p o e law knows at in
      let leads' : sh.path s.0.row l ≡ Some q = ap (λ (x : Entry). sh.path x.row l) (sym s.3) ∙ leads in
      let filled : k < s.0.filled = law.full o l s.0 s.1 (law.linked o l s.0 q s.1 s.2 leads') k j is within in
      let le : o ≤ length p.seen = (let lt = s.4 in omega arith) in
      word_filled sh m o k s.0 law s.1 filled within
      ∙ (ap (used_word sh m.log o s.0) is ∙ (ap (lane_word sh m.log o l j s.0) leads'
      ∙ (ap (λ (c : List (ℕ × RowValue)). version_word sh l j c s.0.row) (chain_seen sh m p s.0.writer (spot l q) o law knows le)
      ∙ ap (λ (x : Entry). version_word sh l j (picks sh x.writer (spot l q) p.seen o) x.row) (sym s.3)))));
}

-- A done word is 0 or 1.
done_by : (sh : Layout) (log : List Ticket) (o i : ℕ) (t : Option Ticket) → suc i ≡ sh.sizes.ticket_words → (ticket_word sh log o i t ≡ 0)
    ⊎ (ticket_word sh log o i t ≡ 1)
done_by sh log o i None last = inl refl
done_by sh log o i (Some t) last =
    let e : ticket_word sh log o i (Some t) ≡ done_word t.is_done =
    ap (λ (b : Bool). cond b (done_word t.is_done) (cond (nat_lt i t.filled) (full_word sh log o t i) 0)) (eq_true (suc i) sh.sizes.ticket_words last) in
    elim (cases_Bool t.is_done) [ inl d ↦ inr (e ∙ ap done_word d) | inr d ↦ inl (e ∙ ap done_word d) ]

done_is : (sh : Layout) (m : Base) (o i : ℕ) → BaseLaw sh m → o < sh.sizes.tickets → suc i ≡ sh.sizes.ticket_words → (word_at sh m.words (cell o i) ≡ 0)
    ⊎ (word_at sh m.words (cell o i) ≡ 1)
done_is sh m o i law lt last =
    let word = law.spells (cell o i) (lt, omega arith) in
    elim (done_by sh m.log o i (slice_get m.log o) last) [ inl e ↦ inl (word ∙ e) | inr e ↦ inr (word ∙ e) ]

-- A cell that a cursor names leads below its ticket.
falls_is : (sh : Layout) (m : Base) (p : Pass) (c : Cursor) (o k : ℕ) → LayoutLaw sh → BaseLaw sh m → CursorLaw sh m.log (length p.seen) c → c.link ≡ suc o
    → sh.use_of k ≡ version c.spot.lane 0 → suc k < sh.sizes.ticket_words
    → word_at sh m.words (cell o k) % 2 ^ 32 ≤ o
falls_is sh m p c o k shaped law walk link is within =
    let leads = subst (Leads sh m.log c) link walk.leads in
    let word = previous_word sh m.tails m.log m.stocks m.words c o k leads is within
    (omega (arith, slice_get_within m.log o leads.0 leads.1, law.room)) shaped.few_tickets law.spells in
    omega (arith, word, top_within sh m.log c.writer c.spot o)

-- What was seen fits.
pub fit_front : (sh : Layout) (m : Base) (n o : ℕ) (e : Entry) → BaseLaw sh m → slice_get (front n m.log) o ≡ Some e → IsFit sh e
fit_front sh m n o e law at =
    let f = front_at m.log n o e at in
    let fits = law.fits o f.1 f.2 in
    let writer = law.writers o f.1 f.2 in
    subst (IsFit sh) (sym f.3) (fits, writer)

-- What a pass knows is in range.
link_low : (sh : Layout) (m : Base) (c : Cursor) (v : ℕ) → BaseLaw sh m → Leads sh m.log c v → v ≤ sh.sizes.tickets
link_low sh m c zero law h = omega arith
link_low sh m c (suc o) law h = omega (arith, slice_get_within m.log o h.0 h.1, law.room)

pub bounded : (sh : Layout) (m : Base) (p : Pass) → BaseLaw sh m → PassLaw sh m p → IsBounded sh p
bounded sh m p law knows = record {
  seen = omega (arith, knows.within, law.covered, law.room);
  known = λ i n s at. (let k = knows.known i (s, n) at in let h = law.nodes.shaped n s k in
      (node_within sh.sizes.nodes sh.sizes.writers m.stocks n s law.nodes.writers law.nodes.room k, h.0, h.1, h.2));
  link = λ c at. (let w : CursorLaw sh m.log (length p.seen) c = subst (CursorIs sh m.log (length p.seen)) at knows.walk in link_low sh m c c.link law w.leads);
  writer = λ k b held. (knows.books k b held).0;
  offset = λ k j b x held at. (let own = knows.books k b held in
      let r = mine_before b.writer 0 m.log j x (ap (λ (c : Book). slice_get c.mine j) (sym own.1) ∙ at) in
      omega (arith, slice_get_within m.log r.place r.ticket r.at, r.offset, law.room));
  rows = λ k j b x held at. (let own = knows.books k b held in
      let r = mine_before b.writer 0 m.log j x (ap (λ (c : Book). slice_get c.mine j) (sym own.1) ∙ at) in
      ap sh.fits r.row ∙ law.fits r.place r.ticket r.at);
  few = λ k b held. (let own = knows.books k b held in let e = ap (λ (c : Book). length c.mine) own.1 in omega (arith, e, mine_few b.writer 0 m.log, law.room));
  flight = λ k b f flies. (let A = aloft sh m p k b f law knows flies in omega (arith, slice_get_within m.log f.offset (ticket_of b.writer f) A.at, law.room));
  room = λ k b held. (let own = knows.books k b held in let e = ap (λ (c : Book). length c.used) own.1 in omega (arith, e, law.nodes.room b.writer));
  apart = λ k i j b s held x y. (let own = knows.books k b held in
      let used : b.used ≡ (stock_of m.stocks b.writer).used = ap (λ (c : Book). c.used) own.1 in
      let u = node_of sh.sizes.nodes m.stocks b.writer i s (law.nodes.room b.writer) (ap (λ (xs : List Spot). slice_get xs i) (sym used) ∙ x) in
      let v = node_of sh.sizes.nodes m.stocks b.writer j s (law.nodes.room b.writer) (ap (λ (xs : List Spot). slice_get xs j) (sym used) ∙ y) in
      let same = law.nodes.unique (b.writer * sh.sizes.nodes + i) (b.writer * sh.sizes.nodes + j) s u v in omega (arith, same));
}

used_at : (bs : List NodeStock) (k n : ℕ) (s : Spot) → node_at k bs n ≡ Some s → slice_get (stock_of bs (n / k)).used (n % k) ≡ Some s
unfolding node_at
used_at bs k n s h = h

-- With all books at home each proper prefix of a path of what was seen has a node.
paths_are : (sh : Layout) (m : Base) (p : Pass) → BaseLaw sh m → PassLaw sh m p → AtHome sh p → (o l d e : ℕ) (xs q : List ℕ) (x : Entry)
    → slice_get p.seen o ≡ Some x → sh.path x.row l ≡ Some (d ∷ (xs ++ e ∷ q)) → HasNode p (spot l (e ∷ q))
paths_are sh m p law knows home o l d e xs q x at leads =
    let s = seen_at sh m p o x law knows at in
    let leads' : sh.path s.0.row l ≡ Some (d ∷ (xs ++ e ∷ q)) = ap (λ (y : Entry). sh.path y.row l) (sym s.3) ∙ leads in
    let node = path_whole sh m o l s.0 d xs e q law s.1 (law.linked o l s.0 (d ∷ (xs ++ e ∷ q)) s.1 s.2 leads') leads' in
    let within = node_within sh.sizes.nodes sh.sizes.writers m.stocks node.0 (spot l (e ∷ q)) law.nodes.writers law.nodes.room node.1 in
    let h = home (node.0 / sh.sizes.nodes) (writer_of node.0 sh.sizes.writers sh.sizes.nodes within) in
    let used : (h.1).used ≡ (stock_of m.stocks (node.0 / sh.sizes.nodes)).used = ap (λ (c : Book). c.used) (knows.books h.0 h.1 h.2).1
    ∙ ap (λ (w : ℕ). (stock_of m.stocks w).used) h.3 in (
      h.0,
      node.0 % sh.sizes.nodes,
      h.1,
      h.2,
      ap (λ (ys : List Spot). slice_get ys (node.0 % sh.sizes.nodes)) used
          ∙ used_at m.stocks sh.sizes.nodes node.0 (spot l (e ∷ q)) node.1,
    )
  where
    writer_of : (n w k : ℕ) → n < w * k → n / k < w
    writer_of n w zero lt = absurd (omega arith)
    writer_of n w (suc k) lt = Rattle.std.proofs.lemmas.Nat.div_below n (suc k) w (omega arith) lt

ahead : (sh : Layout) (m : Base) (p : Pass) (k : ℕ) → BaseLaw sh m → PassLaw sh m p → k < 2 → length p.seen ≤ word_at sh m.words (tail k)
ahead sh m p zero law knows lt = omega (arith, tail_is sh m 0 law (omega arith), law.marks, law.covered, knows.within)
ahead sh m p (suc zero) law knows lt = omega (arith, tail_is sh m 1 law (omega arith), knows.within)
ahead sh m p (suc (suc k)) law knows lt = absurd (omega arith)

head_is_real : (sh : Layout) (m : Base) (p : Pass) (node d w l : ℕ) (q : List ℕ) → BaseLaw sh m → PassLaw sh m p → Knows p (spot l q) node → d < 16
    → w < sh.sizes.writers → IsReal sh.sizes (head_slot sh.sizes node d w)
head_is_real sh m p node d w l q law knows known dl wl = (
  node_within sh.sizes.nodes sh.sizes.writers m.stocks node (spot l q) law.nodes.writers law.nodes.room (knows.known known.0 (spot l q, node) known.1),
  omega (arith, mul-add-lt d sh.sizes.writers w 16 dl wl),
)

-- A filled word of the own ticket in flight.
own_open : (sh : Layout) (m : Base) (p : Pass) (k i : ℕ) (b : Book) (f : Flight) → BaseLaw sh m → PassLaw sh m p → HoldsInFlight p k b f → i < f.filled
    → suc i < sh.sizes.ticket_words
    → word_at sh m.words (cell f.offset i) ≡ own_word sh b f.row (sh.use_of i)
own_open sh m p k i b f law knows flies filled within =
    let A = aloft sh m p k b f law knows flies in
    word_filled sh m f.offset i (ticket_of b.writer f) law A.at filled within
    ∙ sym (own_word_is sh m b.writer f.offset b f (sh.use_of i) law A.book A.at)

-- What the law says of the word found at a slot.
pub tells : (sh : Layout) (m : Base) (p : Pass) (t : Slot) → LayoutLaw sh → BaseLaw sh m → PassLaw sh m p → Tells sh p t (word_at sh m.words t)
tells sh m p t shaped law knows = record {
  ahead = λ k lt is. subst (λ (u : Slot). length p.seen ≤ word_at sh m.words u) (sym is) (ahead sh m p k law knows lt);
  none = λ s child zero_word. (none_through sh m p s t law knows child zero_word, none_own sh m p s t law knows child zero_word);
  begins = λ node d w l q is known leaf dl wl.
      subst (λ (u : Slot). WalkTells sh p.seen (record { writer = w; spot = spot l (d ∷ q); link = word_at sh m.words u; gone = []; met = met_of p.cursor }))
      (sym is)
      (walk_tells sh m p
      (record { writer = w; spot = spot l (d ∷ q); link = word_at sh m.words (head_slot sh.sizes node d w); gone = []; met = met_of p.cursor }) law knows
      (head_walk sh m p node d w l q law knows (head_is_real sh m p node d w l q law knows known dl wl) wl (knows.known known.0 (spot l q, node) known.1)
      (lt_false (suc (length q)) (sh.levels l) (λ h. omega (arith, leaf)))));
  goes = λ c o k is cursor link is_version within.
      (let old : CursorLaw sh m.log (length p.seen) c = subst (CursorIs sh m.log (length p.seen)) cursor knows.walk in
      let on = Rattle.cf_law.proofs.Loads.cell_goes sh m p o k c law knows.within is_version within shaped.few_tickets link old in
      subst (λ (u : Slot). WalkTells sh p.seen
      (record { writer = c.writer; spot = c.spot; link = word_at sh m.words u % 2 ^ 32; gone = o ∷ c.gone; met = (o, c.writer) ∷ c.met })) (sym is)
      (walk_tells sh m p
      (record {
        writer = c.writer;
        spot = c.spot;
        link = word_at sh m.words (cell o k) % 2 ^ 32;
        gone = o ∷ c.gone;
        met = (o, c.writer) ∷ c.met;
      }) law knows on));
  entry = λ o k is. subst (λ (u : Slot). EntryTells sh p.seen o k (word_at sh m.words u)) (sym is) (entry_tells sh m p o k shaped law knows);
  own = λ k node d l q b is held known leaf dl. ap (word_at sh m.words) is
      ∙ own_head_is sh m p k b node d l q law knows held (head_is_real sh m p node d b.writer l q law knows known dl (knows.books k b held).0) known leaf;
  own_cell = λ k j i l h q b x is held at within used leads. ap (word_at sh m.words) is ∙ own_cell sh m p k j i l h q b x law knows held at within used leads;
  done = λ o i is lt last. elim (done_is sh m o i law lt last) [ inl e ↦ inl (ap (word_at sh m.words) is ∙ e) | inr e ↦ inr (ap (word_at sh m.words) is ∙ e) ];
  falls = λ c o k is cursor link used within. subst (λ (u : Slot). word_at sh m.words u % 2 ^ 32 ≤ o) (sym is)
      (falls_is sh m p c o k shaped law (subst (CursorIs sh m.log (length p.seen)) cursor knows.walk) link used within);
  mine = λ k b held. mine_seen sh m p k b law knows held;
  paths = λ home o l d e xs q x at leads. paths_are sh m p law knows home o l d e xs q x at leads;
  fit = λ o e at. fit_front sh m (length p.seen) o e law (ap (λ (es : List Entry). slice_get es o) (sym knows.seen) ∙ at);
  full = λ i home last ends k b held over.
      (let all = (whole sh m p i law knows home last
      (elim ends [ inl le ↦ inl le | inr far ↦ inr (far.0, λ one. far.2 (ap (word_at sh m.words) far.1 ∙ one)) ])).0 in
      all ∙ law.ends b.writer (sym (ap (λ (c : Book). c.over) (knows.books k b held).1) ∙ over));
  stays = λ is home all. subst (λ (u : Slot). word_at sh m.words u ≤ length p.seen) (sym is)
      (let e = tail_is sh m 1 law (omega arith) in let h = stays sh m p law knows home all in omega (arith, e, h));
  own_open = λ k i b f is flies filled within. ap (word_at sh m.words) is ∙ own_open sh m p k i b f law knows flies filled within;
  own_done = λ k j i b x is held at last. ap (word_at sh m.words) is ∙ own_done sh m p k j i b x law knows held at last;
  home = λ i home last ends.
      (whole sh m p i law knows home last (elim ends [ inl le ↦ inl le | inr far ↦ inr (far.0, λ one. far.2 (ap (word_at sh m.words) far.1 ∙ one)) ])).1;
}

goes_on : (sh : Layout) (m n : Base) (p : Pass) (es : List Entry) → BaseLaw sh m → PassLaw sh m p → Later m n → es ≡ front n.tails.1 n.log → GoesOn p es
goes_on sh m n p es law knows later is =
    record {
      seen = begins p.seen knows.within knows.seen;
      olds = λ k old at. let h = knows.olds k old at in
          begins old (let le = h.0 in omega (arith, knows.within)) h.1;
    }
  where
    begins : (xs : List Entry) → length xs ≤ m.tails.1 → xs ≡ front (length xs) m.log → take (length xs) es ≡ xs
    begins xs le front_is =
        let more = later.1 in
        ap (take (length xs)) is
        ∙ (front_take n.log (length xs) n.tails.1 (omega arith)
        ∙ (sym (front_evolves m.log n.log (length xs) (omega (arith, law.covered)) later.0) ∙ sym front_is))

-- A lawful step of a pass, over words and passes that keep the law.
abbrev pub words_after : Layout → List ℕ → Slot → ℕ → List ℕ
words_after sh words t v = set words (place sh.sizes t) v

abbrev pub entries_after : Layout → List ℕ → List Entry
entries_after sh words = entries_spelled sh words (word_at sh words (tail 1))

pub record Stepped (sh : Layout) (words : List ℕ) (passes : List Pass) (k : ℕ) (p : Pass) (t : Slot) (f : ℕ → ℕ) (g : ℕ → List Entry → Pass) : Type 0 where
  pub lawful : Lawful sh (words_after sh words t (f (word_at sh words t)))
      (set passes k (g (word_at sh words t) (entries_after sh (words_after sh words t (f (word_at sh words t))))))
  pub told : StepTells sh p t g (word_at sh words t) (f (word_at sh words t))
      (g (word_at sh words t) (entries_after sh (words_after sh words t (f (word_at sh words t)))))

pub step_lawful : (sh : Layout) (words : List ℕ) (passes : List Pass) (k : ℕ) (p : Pass) (a : Rattle.cf_law.specs.Steps.Act) (t : Slot) (f : ℕ → ℕ)
    (g : ℕ → List Entry → Pass)
    → LayoutLaw sh → Lawful sh words passes → slice_get passes k ≡ Some p → Step sh p a t f g → Stepped sh words passes k p t f g
step_lawful sh words passes k p a t f g shaped law at step =
    subst (λ (ws : List ℕ). Stepped sh ws passes k p t f g) law.spelled (go law.base law.stands)
  where
    go : (m : Base) → Stands sh m passes → Stepped sh m.words passes k p t f g
    go m S =
        let words' : List ℕ = words_after sh m.words t (f (word_at sh m.words t)) in
        let n = step_keeps sh m passes k p a t f g shaped S at step words' refl in
        let es : List Entry = entries_after sh words' in
        let fronts : es ≡ front n.0.tails.1 n.0.log = spelt_is sh n.0 words' shaped n.2.law n.1 in
        record {
          lawful = record { base = n.0; stands = n.2; spelled = n.1 };
          told = record {
            entries = es;
            goes_on = goes_on sh m n.0 p es S.law (S.knows k p at) n.3 fronts;
            long = λ is. ap (λ (xs : List Entry). length xs) fronts
                ∙ (front_length n.0.log n.0.tails.1 n.2.law.covered
                ∙ (sym (tail_is sh n.0 1 n.2.law (omega arith)) ∙ (ap (λ (ws : List ℕ). word_at sh ws (tail 1)) n.1
                ∙ (ap (λ (u : Slot). get_or words' (place sh.sizes u) 0) (sym is)
                ∙ get_or-set_same m.words (place sh.sizes t) (f (word_at sh m.words t)) 0
                (subst (λ (u : Slot). place sh.sizes u < length m.words) (sym is)
                (omega (arith, place_within sh.sizes (tail 1) (omega arith), S.law.size)))))));
            is = refl;
            tells = tells sh m p t shaped S.law (S.knows k p at);
            fit = λ o e there. fit_front sh n.0 n.0.tails.1 o e n.2.law (ap (λ (xs : List Entry). slice_get xs o) (sym fronts) ∙ there);
            bounds = bounded sh n.0 (g (word_at sh m.words t) es) n.2.law
                (n.2.knows k (g (word_at sh m.words t) es) (get_set_same passes k (g (word_at sh m.words t) es) p at));
            mine = λ j b held. mine_seen sh n.0 (g (word_at sh m.words t) es) j b n.2.law
                (n.2.knows k (g (word_at sh m.words t) es) (get_set_same passes k (g (word_at sh m.words t) es) p at)) held;
          };
        }

-- The write tail doesn't pass the capacity and the number of writers.
pub write_tail_most : (sh : Layout) (words : List ℕ) (passes : List Pass) → Lawful sh words passes
    → word_at sh words (tail 0) ≤ sh.sizes.tickets + sh.sizes.writers
write_tail_most sh words passes law = subst (λ (ws : List ℕ). word_at sh ws (tail 0) ≤ sh.sizes.tickets + sh.sizes.writers) law.spelled
    (let m = law.base in let L = law.stands.law in omega (arith, tail_is sh m 0 L (omega arith), L.marks, L.room, marked_most m.stocks, L.nodes.writers))

-- The words of a ticket that a cursor names spell an entry of its writer and leaf, also past the read tail, since they stand before each cell.
pub named_spells : (sh : Layout) (m : Base) (seen : ℕ) (c : Cursor) (o i k j : ℕ) → LayoutLaw sh → BaseLaw sh m → CursorLaw sh m.log seen c → c.link ≡ suc o
    → sh.use_of k ≡ version c.spot.lane j → suc k < sh.sizes.ticket_words → i < sh.plain_words
    → (t : Ticket) × (slice_get m.log o ≡ Some t) × (t.writer ≡ c.writer) × (sh.path t.row c.spot.lane ≡ Some c.spot.path)
    × (word_at sh m.words (cell o i) ≡ get_or (sh.spelled t.row t.writer) i 0)
named_spells sh m seen c o i k j shaped law walk link is within small =
    let leads = subst (Leads sh m.log c) link walk.leads in
    let late : sh.plain_words ≤ k = elim (cases_lt k sh.plain_words) [
      | inl lt ↦ absurd (cc (is, (shaped.plains k lt).1))
      | inr ge ↦ ge
    ] in
    let filled : k < leads.0.filled = leads.4 k j is within in
    let p = shaped.plains i small in
    (leads.0, leads.1, leads.2, leads.3, word_filled sh m o i leads.0 law leads.1 (omega arith) p.0 ∙ ap (used_word sh m.log o leads.0) p.1)
