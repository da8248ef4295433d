-- What each kind of step makes of the words, tickets and nodes keeps their law.
use Rattle.std.proofs.Common.{◌≡◌, ℕ, ◌+◌, ◌<◌, ◌≤◌, ◌⊎◌, suc, List, [], ◌∷◌, ◌++◌, length, set, get_or, Some, None, slice_get, true, false, inl, inr, refl, arith, ap, sym, ◌∙◌, subst, length-set, length-append}
use Rattle.cf_row.proofs.Lists.{get_push_other, get_push_same}
use Rattle.cf_row.specs.Row.{RowValue}
use Rattle.cf_shape.specs.Places.{head_slot}
use Rattle.std.proofs.lemmas.Bool.{cases_eq, cases_lt}
use Rattle.std.proofs.lemmas.Option.{slice_get_within}
use Rattle.cf_shape.specs.Places.{Slot, place}
use Rattle.cf_shape.specs.Places.Slot.{tail, cell, body}
use Rattle.cf_law.proofs.Forms.{stocks_with_label, stocks_with_node, stocks_with_mark, ticket_with_word, ticket_with_head, ticket_with_done, CanFill, CanHead, CanLink}
use Rattle.cf_law.specs.Words.{Spot, Layout, Ticket, NodeStock, stock_of, Spells, has, marked_books, free_of, fresh_ticket, full_word}
use Rattle.cf_law.specs.Law.{LayoutLaw, HasLeaf, Skips, IsWhole}
use Rattle.cf_law.specs.Lawful.{Base, BaseLaw, IsFilledIn}
use Rattle.cf_law.proofs.Nodes.{over_node_at, relabel_marked, use_marked, over_marked, relabel_over, use_over}
use Rattle.cf_law.proofs.Chains.{has_nothing, has_more, has_rest}
use Rattle.cf_law.proofs.Links.{Grows, label_keeps, link_keeps, label_law, link_law, link_leaves, label_leaves, none_from_zero, over_keeps, over_law}
use Rattle.cf_law.proofs.Heads.{get_set_same, get_set_other, head_keeps, fill_keeps, finish_keeps, ticket_keeps, read_tail_keeps}
use Rattle.cf_law.proofs.Passes.{Becomes, Evolves}

-- the words after a store of v at the slot t
abbrev pub base_word : Layout → Base → Slot → ℕ
base_word sh x t = get_or x.words (place sh.sizes t) 0

abbrev pub stored : Layout → Slot → ℕ → Base → List ℕ
stored sh t v x = set x.words (place sh.sizes t) v

-- a ticket
abbrev pub new_ticket : Layout → ℕ → RowValue → Base → Base
new_ticket sh w r x = record {
  words = stored sh (tail 0) (suc x.tails.0) x;
  tails = (suc x.tails.0, x.tails.1);
  log = x.log ++ fresh_ticket w r ∷ [];
  stocks = x.stocks;
}

-- a mark
abbrev pub new_mark : Layout → ℕ → Base → Base
new_mark sh w x = record {
  words = stored sh (tail 0) (suc x.tails.0) x;
  tails = (suc x.tails.0, x.tails.1);
  log = x.log;
  stocks = stocks_with_mark w x.stocks;
}

-- a change of ticket o to u and of the slot t to v: stored words, done words and heads
abbrev pub touched : Layout → ℕ → Ticket → Slot → ℕ → Base → Base
touched sh o u t v x = record {
  words = stored sh t v x;
  tails = x.tails;
  log = set x.log o u;
  stocks = x.stocks;
}

-- an advance
abbrev pub moved : Layout → Base → Base
moved sh x = record {
  words = stored sh (tail 1) (suc x.tails.1) x;
  tails = (x.tails.0, suc x.tails.1);
  log = x.log;
  stocks = x.stocks;
}

-- a label
abbrev pub new_label : Layout → ℕ → ℕ → Base → Base
new_label sh w v x = record {
  words = stored sh (body (free_of sh.sizes.nodes x.stocks w) 0) v x;
  tails = x.tails;
  log = x.log;
  stocks = stocks_with_label w v x.stocks;
}

-- a link that won
abbrev pub new_link : Layout → ℕ → Spot → Slot → Base → Base
new_link sh w s t x = record {
  words = stored sh t (suc (free_of sh.sizes.nodes x.stocks w)) x;
  tails = x.tails;
  log = x.log;
  stocks = stocks_with_node w s x.stocks;
}

-- what stands in a list with one element touched
pub get_from_set : {A : Type 0} (xs : List A) (o i : ℕ) (t u q : A) → slice_get xs o ≡ Some t → slice_get (set xs o u) i ≡ Some q → ((i ≡ o) × (q ≡ u))
    ⊎ (slice_get xs i ≡ Some q)
get_from_set xs o i t u q at h = elim (cases_eq i o) [
  | inl e ↦ inl (e, cc (h, ap (slice_get (set xs o u)) e, get_set_same xs o u t at))
  | inr ne ↦ inr (sym (get_set_other xs o i u ne) ∙ h)
]

pub get_from_push : {A : Type 0} (xs : List A) (i : ℕ) (u q : A) → slice_get (xs ++ u ∷ []) i ≡ Some q → ((i ≡ length xs) × (q ≡ u)) ⊎ (slice_get xs i ≡ Some q)
get_from_push xs i u q h = elim (cases_eq i (length xs)) [
  | inl e ↦ inl (e, cc (h, ap (slice_get (xs ++ u ∷ [])) e, get_push_same xs u))
  | inr ne ↦ inr (sym (get_push_other xs u i ne) ∙ h)
]

pub grows_self : (m : ℕ) (bs : List NodeStock) → Grows m bs bs
grows_self m bs n s h = h

pub becomes_self : (t : Ticket) → Becomes t t
becomes_self t = record { writer = refl; row = refl; filled = omega arith; done = λ h. h }

pub evolves_set : (log : List Ticket) (o : ℕ) (t u : Ticket) → slice_get log o ≡ Some t → Becomes t u → Evolves log (set log o u)
evolves_set log o t u at b i q h = elim (cases_eq i o) [
  | inl e ↦
      let same : t ≡ q = cc (at, ap (slice_get log) e, h) in
      (u, ap (slice_get (set log o u)) e ∙ get_set_same log o u t at, subst (λ (z : Ticket). Becomes z u) same b)
  | inr ne ↦ (q, get_set_other log o i u ne ∙ h, becomes_self q)
]

pub evolves_push : (log : List Ticket) (u : Ticket) → Evolves log (log ++ u ∷ [])
evolves_push log u i q h = (q, get_push_other log u i (λ e. absurd (omega (arith, slice_get_within log i q h))) ∙ h, becomes_self q)

pub evolves_self : (log : List Ticket) → Evolves log log
evolves_self log i q h = (q, h, becomes_self q)

-- A change of one ticket in flight, by which it is filled no less, loses no link and may become finished.
pub record Grown (t u : Ticket) : Type 0 where
  pub becomes : Becomes t u
  pub links : (l : ℕ) → has t.linked l ≡ true → has u.linked l ≡ true

pub change_base : (sh : Layout) (x : Base) (o : ℕ) (t u : Ticket) (z : Slot) (v : ℕ) → BaseLaw sh x → slice_get x.log o ≡ Some t → Grown t u
    → Spells sh x.tails (set x.log o u) x.stocks (stored sh z v x)
    → ((l : ℕ) → has u.linked l ≡ true → HasLeaf sh x.stocks u l)
    → ((l : ℕ) → has u.linked l ≡ true → IsFilledIn sh u l)
    → ((l : ℕ) (p : List ℕ) → u.is_done ≡ true → sh.path u.row l ≡ Some p → has u.linked l ≡ true)
    → (u.is_done ≡ true → IsWhole sh u)
    → BaseLaw sh (touched sh o u z v x)
change_base sh x o t u z v law at grown spells leaves full linked whole = record {
  size = length-set x.words _ _ ∙ law.size;
  spells = spells;
  nodes = law.nodes;
  room = subst (λ (n : ℕ). n ≤ sh.sizes.tickets) (sym (length-set x.log o u)) law.room;
  flight = λ i j q r a b w lt. elim (get_from_set x.log o i t u q at a) [
    | inl e ↦
        let i0 : slice_get x.log i ≡ Some t = ap (slice_get x.log) e.0 ∙ at in
        let done : t.is_done ≡ true = elim (get_from_set x.log o j t u r at b) [
          | inl f ↦ absurd (omega (arith, e.0, f.0))
          | inr f ↦ law.flight i j t r i0 f (sym grown.becomes.writer ∙ (ap (λ (k : Ticket). k.writer) (sym e.1) ∙ w)) lt
        ] in
        ap (λ (k : Ticket). k.is_done) e.1 ∙ grown.becomes.done done
    | inr e ↦ elim (get_from_set x.log o j t u r at b) [
      | inl f ↦ law.flight i j q t e (ap (slice_get x.log) f.0 ∙ at) (w ∙ (ap (λ (k : Ticket). k.writer) f.1 ∙ grown.becomes.writer)) lt
      | inr f ↦ law.flight i j q r e f w lt
    ]
  ];
  leaves = λ i q l a h. elim (get_from_set x.log o i t u q at a) [
    | inl e ↦ subst (λ (k : Ticket). HasLeaf sh x.stocks k l) (sym e.1) (leaves l (ap (λ (k : Ticket). has k.linked l) (sym e.1) ∙ h))
    | inr e ↦ law.leaves i q l e h
  ];
  full = λ i l q a h. elim (get_from_set x.log o i t u q at a) [
    | inl e ↦ subst (λ (k : Ticket). IsFilledIn sh k l) (sym e.1) (full l (ap (λ (k : Ticket). has k.linked l) (sym e.1) ∙ h))
    | inr e ↦ law.full i l q e h
  ];
  linked = λ i l q p a d h. elim (get_from_set x.log o i t u q at a) [
    | inl e ↦ ap (λ (k : Ticket). has k.linked l) e.1
        ∙ linked l p (ap (λ (k : Ticket). k.is_done) (sym e.1) ∙ d) (ap (λ (k : Ticket). sh.path k.row l) (sym e.1) ∙ h)
    | inr e ↦ law.linked i l q p e d h
  ];
  whole = λ i q a d. elim (get_from_set x.log o i t u q at a) [
    | inl e ↦ subst (IsWhole sh) (sym e.1) (whole (ap (λ (k : Ticket). k.is_done) (sym e.1) ∙ d))
    | inr e ↦ law.whole i q e d
  ];
  marks = law.marks ∙ ap (λ (n : ℕ). n + marked_books x.stocks) (sym (length-set x.log o u));
  ends = λ w h. length-set x.log o u ∙ law.ends w h;
  writers = λ i q a. elim (get_from_set x.log o i t u q at a) [
    | inl e ↦ omega (arith, ap (λ (k : Ticket). k.writer) e.1, grown.becomes.writer, law.writers o t at)
    | inr e ↦ law.writers i q e
  ];
  fits = λ i q a. elim (get_from_set x.log o i t u q at a) [
    | inl e ↦ ap (λ (k : Ticket). sh.fits k.row) e.1 ∙ (ap sh.fits grown.becomes.row ∙ law.fits o t at)
    | inr e ↦ law.fits i q e
  ];
  covered = subst (λ (n : ℕ). x.tails.1 ≤ n) (sym (length-set x.log o u)) law.covered;
  done = λ i q lt a. elim (get_from_set x.log o i t u q at a) [
    | inl e ↦ ap (λ (k : Ticket). k.is_done) e.1 ∙ grown.becomes.done (law.done o t (omega (arith, e.0)) at)
    | inr e ↦ law.done i q lt e
  ];
}

-- A stored word.
pub fill_base : (sh : Layout) (x : Base) (o k : ℕ) (t : Ticket) → BaseLaw sh x → CanFill sh x.log o t k
    → BaseLaw sh (touched sh o (ticket_with_word k t) (cell o k) (full_word sh x.log o t k) x)
fill_base sh x o k t law can =
    change_base sh x o t (ticket_with_word k t) (cell o k) (full_word sh x.log o t k) law can.at
    (record { becomes = record { writer = refl; row = refl; filled = omega (arith, can.from); done = λ h. h }; links = λ l h. h })
    (fill_keeps sh x.tails x.log x.stocks x.words o k t can law.size (omega (arith, slice_get_within x.log o t can.at, law.room)) law.spells)
    (λ l h. law.leaves o t l can.at h)
    (λ l h i j is within. let f = law.full o l t can.at h i j is within in omega (arith, f, can.from))
    (λ l p d h. absurd (cc (d, can.flies)))
    (λ d. absurd (cc (d, can.flies)))

-- A done word.
pub finish_base : (sh : Layout) (x : Base) (o k : ℕ) (t : Ticket) → BaseLaw sh x → slice_get x.log o ≡ Some t → suc k ≡ sh.sizes.ticket_words
    → ((l : ℕ) (p : List ℕ) → sh.path t.row l ≡ Some p → has t.linked l ≡ true)
    → IsWhole sh t
    → BaseLaw sh (touched sh o (ticket_with_done t) (cell o k) 1 x)
finish_base sh x o k t law at last linked whole =
    change_base sh x o t (ticket_with_done t) (cell o k) 1 law at
    (record { becomes = record { writer = refl; row = refl; filled = omega arith; done = λ h. refl }; links = λ l h. h })
    (finish_keeps sh x.tails x.log x.stocks x.words o k t at last law.size (omega (arith, slice_get_within x.log o t at, law.room)) law.spells)
    (λ l h. law.leaves o t l at h)
    (λ l h. law.full o l t at h)
    (λ l p d h. linked l p h)
    (λ d. whole)

-- A head.
pub head_base : (sh : Layout) (x : Base) (o : ℕ) (t : Ticket) (l d : ℕ) (p : List ℕ) (n : ℕ) → LayoutLaw sh → BaseLaw sh x
    → CanHead sh x.log x.stocks o t l d p n
    → BaseLaw sh (touched sh o (ticket_with_head l t) (head_slot sh.sizes n d t.writer) (suc o) x)
head_base sh x o t l d p n shaped law can =
    change_base sh x o t (ticket_with_head l t) (head_slot sh.sizes n d t.writer) (suc o) law can.at
    (record { becomes = record { writer = refl; row = refl; filled = omega arith; done = λ h. h }; links = λ i h. has_rest l i t.linked h })
    (head_keeps sh x.tails x.log x.stocks x.words o t l d p n shaped law.nodes law.flight can law.size law.spells)
    (λ i h. elim (has_more l i t.linked h) [
      | inl e ↦ subst (λ (q : ℕ). HasLeaf sh x.stocks (ticket_with_head l t) q) e (d, p, n, can.leads, can.leaf)
      | inr m ↦ law.leaves o t i can.at m
    ])
    (λ i h. elim (has_more l i t.linked h) [
      | inl e ↦ λ k j is within. elim (cases_lt k t.filled) [
        | inl lt ↦ lt
        | inr ge ↦
            let skipped : sh.path t.row i ≡ None = subst (Skips sh t) is (can.ready k ge within) in
            absurd (cc (skipped, ap (sh.path t.row) e, can.leads))
      ]
      | inr m ↦ law.full o i t can.at m
    ])
    (λ i q done h. absurd (cc (done, can.flies)))
    (λ done. absurd (cc (done, can.flies)))

-- A ticket.
pub ticket_base : (sh : Layout) (x : Base) (w : ℕ) (r : RowValue) → BaseLaw sh x → sh.fits r ≡ true → w < sh.sizes.writers → length x.log < sh.sizes.tickets
    → ((o : ℕ) (t : Ticket) → slice_get x.log o ≡ Some t → t.writer ≡ w → t.is_done ≡ true)
    → BaseLaw sh (new_ticket sh w r x)
ticket_base sh x w r law fit lt room none = let u = fresh_ticket w r in let len : length (x.log ++ u ∷ []) ≡ length x.log + 1 = length-append x.log (u ∷ []) in
    record {
      size = length-set x.words _ _ ∙ law.size;
      spells = ticket_keeps sh x.tails x.log x.stocks x.words w r law.size law.spells;
      nodes = law.nodes;
      room = omega arith;
      flight = λ i j q s a b same less. elim (get_from_push x.log i u q a) [
        | inl e ↦ elim (get_from_push x.log j u s b) [
          | inl f ↦ absurd (omega (arith, e.0, f.0))
          | inr f ↦ absurd (omega (arith, e.0, slice_get_within x.log j s f))
        ]
        | inr e ↦ elim (get_from_push x.log j u s b) [
          | inl f ↦ none i q e (same ∙ ap (λ (k : Ticket). k.writer) f.1)
          | inr f ↦ law.flight i j q s e f same less
        ]
      ];
      leaves = λ i q l a h. elim (get_from_push x.log i u q a) [
        | inl e ↦ absurd (has_nothing l (ap (λ (k : Ticket). has k.linked l) (sym e.1) ∙ h))
        | inr e ↦ law.leaves i q l e h
      ];
      full = λ i l q a h. elim (get_from_push x.log i u q a) [
        | inl e ↦ absurd (has_nothing l (ap (λ (k : Ticket). has k.linked l) (sym e.1) ∙ h))
        | inr e ↦ law.full i l q e h
      ];
      linked = λ i l q p a d h. elim (get_from_push x.log i u q a) [
        | inl e ↦ absurd (cc (ap (λ (k : Ticket). k.is_done) e.1, d))
        | inr e ↦ law.linked i l q p e d h
      ];
      whole = λ i q a d. elim (get_from_push x.log i u q a) [
        | inl e ↦ absurd (cc (ap (λ (k : Ticket). k.is_done) e.1, d))
        | inr e ↦ law.whole i q e d
      ];
      marks = omega (arith, law.marks);
      ends = λ v h. absurd (omega (arith, law.ends v h));
      writers = λ i q a. elim (get_from_push x.log i u q a) [
        | inl e ↦ omega (arith, ap (λ (k : Ticket). k.writer) e.1)
        | inr e ↦ law.writers i q e
      ];
      fits = λ i q a. elim (get_from_push x.log i u q a) [
        | inl e ↦ ap (λ (k : Ticket). sh.fits k.row) e.1 ∙ fit
        | inr e ↦ law.fits i q e
      ];
      covered = omega (arith, law.covered);
      done = λ i q less a. elim (get_from_push x.log i u q a) [
        | inl e ↦ absurd (omega (arith, e.0, law.covered))
        | inr e ↦ law.done i q less e
      ];
    }

-- An advance that moves the tail.
pub advance_base : (sh : Layout) (x : Base) (t : Ticket) → BaseLaw sh x → slice_get x.log x.tails.1 ≡ Some t → t.is_done ≡ true → BaseLaw sh (moved sh x)
advance_base sh x t law at done = record {
  size = length-set x.words _ _ ∙ law.size;
  spells = read_tail_keeps sh x.tails x.log x.stocks x.words (suc x.tails.1) law.size law.spells;
  nodes = law.nodes;
  room = law.room;
  flight = law.flight;
  leaves = law.leaves;
  full = law.full;
  linked = law.linked;
  whole = law.whole;
  marks = law.marks;
  ends = law.ends;
  writers = law.writers;
  fits = law.fits;
  covered = slice_get_within x.log x.tails.1 t at;
  done = λ i q less a. elim (cases_eq i x.tails.1) [
    | inl e ↦ let same : t ≡ q = cc (at, ap (slice_get x.log) e, a) in ap (λ (k : Ticket). k.is_done) (sym same) ∙ done
    | inr ne ↦ law.done i q (omega arith) a
  ];
}

-- A label.
pub label_base : (sh : Layout) (x : Base) (w v : ℕ) → BaseLaw sh x → w < length x.stocks → length (stock_of x.stocks w).used < sh.sizes.nodes
    → BaseLaw sh (new_label sh w v x)
label_base sh x w v law lt room = record {
  size = length-set x.words _ _ ∙ law.size;
  spells = label_keeps sh x.tails x.log x.stocks x.words w v law.nodes lt room law.size law.spells;
  nodes = label_law sh x.stocks w v lt law.nodes;
  room = law.room;
  flight = law.flight;
  leaves = label_leaves sh x.log x.stocks w v lt law.leaves;
  full = law.full;
  linked = law.linked;
  whole = law.whole;
  marks = law.marks ∙ ap (λ (n : ℕ). length x.log + n) (sym (relabel_marked w v x.stocks lt));
  ends = λ u h. law.ends u (sym (relabel_over w v x.stocks u lt) ∙ h);
  writers = law.writers;
  fits = law.fits;
  covered = law.covered;
  done = law.done;
}

-- A link where the word was 0.
pub link_base : (sh : Layout) (x : Base) (w : ℕ) (s : Spot) (t : Slot) → BaseLaw sh x → CanLink sh x.stocks w s t → base_word sh x t ≡ 0
    → BaseLaw sh (new_link sh w s t x)
link_base sh x w s t law can zero_word = record {
  size = length-set x.words _ _ ∙ law.size;
  spells = link_keeps sh x.tails x.log x.stocks x.words w s t law.nodes law.leaves can law.size law.spells zero_word;
  nodes = link_law sh x.stocks w s t law.nodes can (none_from_zero sh x.tails x.log x.stocks x.words s t can.inner can.real can.named law.spells zero_word);
  room = law.room;
  flight = law.flight;
  leaves = link_leaves sh x.log x.stocks w s can.writer can.room law.leaves;
  full = law.full;
  linked = law.linked;
  whole = law.whole;
  marks = law.marks ∙ ap (λ (n : ℕ). length x.log + n) (sym (use_marked w s x.stocks can.writer));
  ends = λ u h. law.ends u (sym (use_over w s x.stocks u can.writer) ∙ h);
  writers = law.writers;
  fits = law.fits;
  covered = law.covered;
  done = law.done;
}

-- A mark.
pub over_base : (sh : Layout) (x : Base) (w : ℕ) → BaseLaw sh x → w < length x.stocks → (stock_of x.stocks w).over ≡ false → length x.log ≡ sh.sizes.tickets
    → BaseLaw sh (new_mark sh w x)
over_base sh x w law lt fresh full = record {
  size = length-set x.words _ _ ∙ law.size;
  spells = over_keeps sh x.tails x.log x.stocks x.words w law.size lt law.spells;
  nodes = over_law sh x.stocks w lt law.nodes;
  room = law.room;
  flight = law.flight;
  leaves = λ o t l at h. let y = law.leaves o t l at h in (y.0, y.1, y.2, y.3, over_node_at sh.sizes.nodes x.stocks w y.2 lt ∙ y.4);
  full = law.full;
  linked = law.linked;
  whole = law.whole;
  marks = ap suc law.marks ∙ (let e = over_marked w x.stocks lt fresh in omega (arith, e));
  ends = λ v h. full;
  writers = law.writers;
  fits = law.fits;
  covered = law.covered;
  done = law.done;
}
