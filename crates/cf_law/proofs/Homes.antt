-- What a pass learns of its own finished tickets, and, with all books at home, of all tickets.
use Rattle.std.proofs.Common.{◌≡◌, ℕ, ◌+◌, ◌<◌, ◌≤◌, ◌⊎◌, ◌==◌, zero, suc, List, [], ◌∷◌, length, Option, Some, None, slice_get, cond, Bool, true, inl, inr, refl, arith, ap, ap₂, sym, ◌∙◌}
use Rattle.cf_row.proofs.Truths.{eq_from, eq_true}
use Rattle.cf_row.specs.declared.row.Entry.{Entry}
use Rattle.std.specs.Bool.{nat_lt}
use Rattle.std.proofs.lemmas.Bool.{cases_Bool, cases_lt}
use Rattle.std.proofs.lemmas.Option.{slice_get_within}
use Rattle.cf_shape.specs.Places.Slot.{cell}
use Rattle.cf_law.specs.Words.{Layout, Ticket, ticket_word, done_word, full_word}
use Rattle.cf_law.specs.Passes.{Own, Book, Pass}
use Rattle.cf_law.specs.Steps.{Holds}
use Rattle.cf_law.specs.Lawful.{Base, BaseLaw, front, mine_in, flight_in, PassLaw}
use Rattle.cf_law.specs.Events.{word_at}
use Rattle.cf_law.specs.Readers.{mine_from, AtHome}
use Rattle.cf_law.proofs.Books.{own_of, other_cons, done_cons, open_cons, none_flying}

abbrev Found : ℕ → ℕ → List Ticket → Own → Type 0
Found w k log x = (i : ℕ) × (t : Ticket) × (x.offset ≡ k + i) × (slice_get log i ≡ Some t) × (t.writer ≡ w) × (t.is_done ≡ true)

found_in : (w k : ℕ) (t : Ticket) (ts : List Ticket) (x : Own) → Found w (suc k) ts x → Found w k (t ∷ ts) x
found_in w k t ts x h = (suc h.0, h.1, (let e = h.2 in omega arith), h.3, h.4, h.5)

nothing_mine : (w k : ℕ) → mine_in w k [] ≡ []
unfolding mine_in
nothing_mine w k = refl

-- what a writer has finished stands in the log
pub mine_found : (w k : ℕ) (log : List Ticket) (j : ℕ) (x : Own) → slice_get (mine_in w k log) j ≡ Some x → Found w k log x
mine_found w k [] j x h = absurd (cc (ap (λ (xs : List Own). slice_get xs j) (nothing_mine w k), h))
mine_found w k (t ∷ ts) j x h = elim (cases_Bool (t.writer == w)) [
  | inr e ↦ found_in w k t ts x (mine_found w (suc k) ts j x (ap (λ (xs : List Own). slice_get xs j) (sym (other_cons w k t ts e).0) ∙ h))
  | inl e ↦ elim (cases_Bool t.is_done) [
    | inr d ↦ found_in w k t ts x (mine_found w (suc k) ts j x (ap (λ (xs : List Own). slice_get xs j) (sym (open_cons w k t ts e d).0) ∙ h))
    | inl d ↦ first e d (λ i g. mine_found w (suc k) ts i x g) j (ap (λ (xs : List Own). slice_get xs j) (sym (done_cons w k t ts e d).0) ∙ h)
  ]
]
  where
    first : (t.writer == w) ≡ true → t.is_done ≡ true → ((i : ℕ) → slice_get (mine_in w (suc k) ts) i ≡ Some x → Found w (suc k) ts x) → (j : ℕ)
        → slice_get (own_of k t ∷ mine_in w (suc k) ts) j ≡ Some x → Found w k (t ∷ ts) x
    first e d rest zero g =
        let same : own_of k t ≡ x = cc g in
        let o : k ≡ x.offset = ap (λ (y : Own). y.offset) same in (0, t, omega arith, refl, eq_from t.writer w e, d)
    first e d rest (suc i) g = found_in w k t ts x (rest i g)

-- they are no more than the log's tickets
pub mine_few : (w k : ℕ) (log : List Ticket) → length (mine_in w k log) ≤ length log
mine_few w k [] = (let e = ap (λ (xs : List Own). length xs) (nothing_mine w k) in omega (arith, e))
mine_few w k (t ∷ ts) = elim (cases_Bool (t.writer == w)) [
  | inr e ↦ (let f = ap (λ (xs : List Own). length xs) (other_cons w k t ts e).0 in omega (arith, f, mine_few w (suc k) ts))
  | inl e ↦ elim (cases_Bool t.is_done) [
    | inr d ↦ (let f = ap (λ (xs : List Own). length xs) (open_cons w k t ts e d).0 in omega (arith, f, mine_few w (suc k) ts))
    | inl d ↦ (let f = ap (λ (xs : List Own). length xs) (done_cons w k t ts e d).0 in omega (arith, f, mine_few w (suc k) ts))
  ]
]

-- a finished ticket's done word is 1
pub done_one : (sh : Layout) (m : Base) (o i : ℕ) (t : Ticket) → BaseLaw sh m → slice_get m.log o ≡ Some t → t.is_done ≡ true → suc i ≡ sh.sizes.ticket_words
    → word_at sh m.words (cell o i) ≡ 1
done_one sh m o i t law at done last =
    let r : word_at sh m.words (cell o i) ≡ ticket_word sh m.log o i (slice_get m.log o) =
    law.spells (cell o i) (omega (arith, slice_get_within m.log o t at, law.room), omega arith) in
    r ∙ (ap (ticket_word sh m.log o i) at
    ∙ (ap (λ (b : Bool). cond b (done_word t.is_done) (cond (nat_lt i t.filled) (full_word sh m.log o t i) 0)) (eq_true (suc i) sh.sizes.ticket_words last)
    ∙ ap done_word done))

pub own_done : (sh : Layout) (m : Base) (p : Pass) (k j i : ℕ) (b : Book) (x : Own) → BaseLaw sh m → PassLaw sh m p → Holds p k b
    → slice_get b.mine j ≡ Some x → suc i ≡ sh.sizes.ticket_words
    → word_at sh m.words (cell x.offset i) ≡ 1
own_done sh m p k j i b x law knows held at last =
    let own = knows.books k b held in
    let f = mine_found b.writer 0 m.log j x (ap (λ (c : Book). slice_get c.mine j) (sym own.1) ∙ at) in
    let o : x.offset ≡ f.0 = (let e = f.2 in omega arith) in
    ap (λ (n : ℕ). word_at sh m.words (cell n i)) o ∙ done_one sh m f.0 i f.1 law f.3 f.5 last

-- Where all tickets are finished, a writer's are the entries that it has.
abbrev from_if : ℕ → ℕ → Entry → List Own → List Own
from_if w k e xs = cond (e.writer == w) (record { offset = k; row = e.row } ∷ xs) xs

from_cons : (w k : ℕ) (e : Entry) (es : List Entry) → mine_from w k (e ∷ es) ≡ from_if w k e (mine_from w (suc k) es)
unfolding mine_from
from_cons w k e es = refl

front_all : (log : List Ticket) (w k : ℕ) → ((i : ℕ) (t : Ticket) → slice_get log i ≡ Some t → t.is_done ≡ true)
    → mine_in w k log ≡ mine_from w k (front (length log) log)
unfolding front mine_from
front_all [] w k h = nothing_mine w k
front_all (t ∷ ts) w k h =
    let rest = front_all ts w (suc k) (λ i u at. h (suc i) u at) in
    elim (cases_Bool (t.writer == w)) [
      | inr e ↦ (other_cons w k t ts e).0
          ∙ (rest ∙ sym (ap (λ (b : Bool). cond b (own_of k t ∷ mine_from w (suc k) (front (length ts) ts)) (mine_from w (suc k) (front (length ts) ts))) e))
      | inl e ↦ (done_cons w k t ts e (h 0 t refl)).0
          ∙ (ap (λ (xs : List Own). own_of k t ∷ xs) rest
          ∙ sym (ap (λ (b : Bool). cond b (own_of k t ∷ mine_from w (suc k) (front (length ts) ts)) (mine_from w (suc k) (front (length ts) ts))) e))
    ]

-- The pass that holds all books at rest, and has seen as much as is finished, has seen all, and each writer's entries there are its own.
pub whole : (sh : Layout) (m : Base) (p : Pass) (i : ℕ) → BaseLaw sh m → PassLaw sh m p → AtHome sh p → suc i ≡ sh.sizes.ticket_words
    → (sh.sizes.tickets ≤ length p.seen) ⊎ ((length p.seen < sh.sizes.tickets) × (word_at sh m.words (cell (length p.seen) i) ≡ 1 → ⊥))
    → (length p.seen ≡ length m.log) × ((k : ℕ) (b : Book) → Holds p k b → b.mine ≡ mine_from b.writer 0 p.seen)
whole sh m p i law knows home last ends =
    let low = knows.within in
    let all : length p.seen ≡ length m.log = elim ends [
      | inl le ↦ omega (arith, law.covered, law.room)
      | inr far ↦ elim (cases_lt (length p.seen) (length m.log)) [
        | inr ge ↦ omega (arith, law.covered)
        | inl lt ↦ absurd (open_there lt (slice_get m.log (length p.seen)) refl far.1)
      ]
    ] in
    let seen : p.seen ≡ front (length m.log) m.log = knows.seen ∙ ap (λ (n : ℕ). front n m.log) all in
    (all, λ k b held. ap (λ (c : Book). c.mine) (knows.books k b held).1 ∙ (front_all m.log b.writer 0 every ∙ ap (mine_from b.writer 0) (sym seen)))
  where
    every : (o : ℕ) (t : Ticket) → slice_get m.log o ≡ Some t → t.is_done ≡ true
    every o t at =
        let h = home t.writer (law.writers o t at) in
        let own = knows.books h.0 h.1 h.2 in
        none_flying t.writer 0 m.log o t (sym (ap (λ (w : ℕ). flight_in w 0 m.log) h.3) ∙ (sym (ap (λ (c : Book). c.flight) own.1) ∙ h.4)) at refl

    open_there : length p.seen < length m.log → (x : Option Ticket) → slice_get m.log (length p.seen) ≡ x
        → (word_at sh m.words (cell (length p.seen) i) ≡ 1 → ⊥) → ⊥
    open_there lt None e far = Rattle.cf_law.proofs.Passes.no_gap m.log (length p.seen) lt e
    open_there lt (Some t) e far = far (done_one sh m (length p.seen) i t law e (every (length p.seen) t e) last)

-- a finished ticket is among its writer's
mine_has : (w k : ℕ) (log : List Ticket) (i : ℕ) (t : Ticket) → slice_get log i ≡ Some t → t.writer ≡ w → t.is_done ≡ true → (j : ℕ)
    × (slice_get (mine_in w k log) j ≡ Some (own_of (k + i) t))
mine_has w k [] i t at e d = absurd (cc at)
mine_has w k (x ∷ xs) zero t at e d =
    let same : x ≡ t = cc at in
    let c = done_cons w k x xs (eq_true x.writer w (ap (λ (y : Ticket). y.writer) same ∙ e)) (ap (λ (y : Ticket). y.is_done) same ∙ d) in
    let here : k ≡ k + 0 = omega arith in
    (0, ap (λ (ys : List Own). slice_get ys 0) c.0 ∙ ap₂ (λ (n : ℕ) (y : Ticket). Some (own_of n y)) here same)
mine_has w k (x ∷ xs) (suc i) t at e d =
    let r = mine_has w (suc k) xs i t at e d in
    let next : suc k + i ≡ k + suc i = omega arith in
    let there = r.1 ∙ ap (λ (n : ℕ). Some (own_of n t)) next in
    elim (cases_Bool (x.writer == w)) [
      | inr f ↦ (r.0, ap (λ (ys : List Own). slice_get ys r.0) (other_cons w k x xs f).0 ∙ there)
      | inl f ↦ elim (cases_Bool x.is_done) [
        | inl g ↦ (suc r.0, ap (λ (ys : List Own). slice_get ys (suc r.0)) (done_cons w k x xs f g).0 ∙ there)
        | inr g ↦ (r.0, ap (λ (ys : List Own). slice_get ys r.0) (open_cons w k x xs f g).0 ∙ there)
      ]
    ]

from_nil : (w k : ℕ) → mine_from w k [] ≡ []
unfolding mine_from
from_nil w k = refl

from_below : (w k : ℕ) (es : List Entry) (j : ℕ) (x : Own) → slice_get (mine_from w k es) j ≡ Some x → x.offset < k + length es
from_below w k [] j x h = absurd (cc (ap (λ (ys : List Own). slice_get ys j) (from_nil w k), h))
from_below w k (e ∷ es) j x h = elim (cases_Bool (e.writer == w)) [
  | inr f ↦
      let r = from_below w (suc k) es j x
      (sym (ap (λ (b : Bool). slice_get (cond b (record { offset = k; row = e.row } ∷ mine_from w (suc k) es) (mine_from w (suc k) es)) j) f)
      ∙ (sym (ap (λ (ys : List Own). slice_get ys j) (from_cons w k e es)) ∙ h)) in omega (arith, r)
  | inl f ↦ first (λ i g. from_below w (suc k) es i x g) j
      (sym (ap (λ (b : Bool). slice_get (cond b (record { offset = k; row = e.row } ∷ mine_from w (suc k) es) (mine_from w (suc k) es)) j) f)
      ∙ (sym (ap (λ (ys : List Own). slice_get ys j) (from_cons w k e es)) ∙ h))
]
  where
    first : ((i : ℕ) → slice_get (mine_from w (suc k) es) i ≡ Some x → x.offset < suc k + length es) → (j : ℕ)
        → slice_get (record { offset = k; row = e.row } ∷ mine_from w (suc k) es) j ≡ Some x → x.offset < k + suc (length es)
    first rest zero g = let same : own_row k e ≡ x = cc g in omega (arith, ap (λ (y : Own). y.offset) same)
      where
        own_row : ℕ → Entry → Own
        own_row n a = record { offset = n; row = a.row }
    first rest (suc i) g = omega (arith, rest i g)

-- While all books are home, and all of theirs was seen, the read tail stays where it is.
pub stays : (sh : Layout) (m : Base) (p : Pass) → BaseLaw sh m → PassLaw sh m p → AtHome sh p
    → ((k : ℕ) (b : Book) → Holds p k b → b.mine ≡ mine_from b.writer 0 p.seen) → m.tails.1 ≤ length p.seen
stays sh m p law knows home all = elim (cases_lt (length p.seen) m.tails.1) [
  | inr ge ↦ ge
  | inl lt ↦ absurd (go lt (slice_get m.log (length p.seen)) refl)
]
  where
    go : length p.seen < m.tails.1 → (x : Option Ticket) → slice_get m.log (length p.seen) ≡ x → ⊥
    go lt None e = Rattle.cf_law.proofs.Passes.no_gap m.log (length p.seen) (omega (arith, law.covered)) e
    go lt (Some t) e =
        let b = home t.writer (law.writers (length p.seen) t e) in
        let own = knows.books b.0 b.1 b.2 in
        let has = mine_has (b.1).writer 0 m.log (length p.seen) t e (sym b.3) (law.done (length p.seen) t lt e) in
        let there : slice_get (mine_from (b.1).writer 0 p.seen) has.0 ≡ Some (own_of (0 + length p.seen) t) =
        ap (λ (ys : List Own). slice_get ys has.0) (sym (all b.0 b.1 b.2) ∙ ap (λ (c : Book). c.mine) own.1) ∙ has.1 in
        omega (arith, from_below (b.1).writer 0 p.seen has.0 (own_of (0 + length p.seen) t) there)
