-- What a writer's book says of its own words, and of what was seen of it.
use Rattle.std.proofs.Common.{◌≡◌, ℕ, ◌+◌, ◌<◌, ◌≤◌, ◌==◌, zero, suc, cond, Bool, true, false, List, [], ◌∷◌, ◌++◌, length, take, Option, Some, None, slice_get, inl, inr, refl, arith, ap, ap₂, sym, ◌∙◌, subst}
use Rattle.cf_row.proofs.Truths.{eq_from, eq_true, lt_false}
use Rattle.cf_row.specs.Row.{RowValue}
use Rattle.cf_row.specs.declared.row.Entry.{Entry}
use Rattle.std.proofs.lemmas.Bool.{cases_Bool, cases_eq}
use Rattle.std.proofs.lemmas.List.{take_at}
use Rattle.std.proofs.lemmas.Option.{slice_get_within}
use Rattle.cf_shape.specs.Places.{head_slot, IsReal}
use Rattle.cf_shape.specs.Places.Slot.{cell}
use Rattle.cf_shape.specs.Uses.Use.{version}
use Rattle.cf_law.specs.Words.{Spot, spot, Layout, Ticket, entry, has, same_path, links, entry_at, chain, link_to_newest, version_word, used_word, lane_word}
use Rattle.cf_law.specs.Passes.{Own, Flight, Book, Pass}
use Rattle.cf_law.specs.Steps.{Holds, Knows, mine_chain, ticket_of}
use Rattle.cf_law.specs.Lawful.{Base, BaseLaw, PassLaw, front, mine_in, flight_in, book_at}
use Rattle.cf_law.specs.Events.{word_at}
use Rattle.cf_law.specs.Readers.{mine_from, own_top, own_top_by}
use Rattle.cf_law.proofs.Chains.{links_true, entry_linked, entry_unlinked, entry_none, chain_same, chain_from, chain_top}
use Rattle.cf_law.proofs.Heads.{none_after}
use Rattle.cf_law.proofs.Passes.{head_word}
use Rattle.cf_law.proofs.Books.{own_of, other_cons, done_cons, open_cons, none_flying}
use Rattle.cf_law.proofs.Owned.{walk, mine_walk, chain_walk, chain_mine, Settled}
use Rattle.cf_law.proofs.Fronts.{word_filled}
use Rattle.cf_law.proofs.Keeps.{aloft}

nothing_mine : (w k : ℕ) → mine_in w k [] ≡ []
unfolding mine_in
nothing_mine w k = refl

-- a finished ticket of a writer, and what the writer had finished before it
pub record IsMine (w k j : ℕ) (log : List Ticket) (x : Own) : Type 0 where
  pub place : ℕ
  pub ticket : Ticket
  pub offset : x.offset ≡ k + place
  pub row : x.row ≡ ticket.row
  pub at : slice_get log place ≡ Some ticket
  pub writer : ticket.writer ≡ w
  pub done : ticket.is_done ≡ true
  pub before : mine_in w k (take place log) ≡ take j (mine_in w k log)

pub mine_before : (w k : ℕ) (log : List Ticket) (j : ℕ) (x : Own) → slice_get (mine_in w k log) j ≡ Some x → IsMine w k j log x
mine_before w k [] j x h = absurd (cc (ap (λ (xs : List Own). slice_get xs j) (nothing_mine w k), h))
mine_before w k (t ∷ ts) j x h = elim (cases_Bool (t.writer == w)) [
  | inr e ↦
      let r = mine_before w (suc k) ts j x (ap (λ (xs : List Own). slice_get xs j) (sym (other_cons w k t ts e).0) ∙ h) in
      record {
        place = suc r.place;
        ticket = r.ticket;
        offset = (let o = r.offset in omega arith);
        row = r.row;
        at = r.at;
        writer = r.writer;
        done = r.done;
        before = (other_cons w k t (take r.place ts) e).0 ∙ (r.before ∙ ap (take j) (sym (other_cons w k t ts e).0));
      }
  | inl e ↦ elim (cases_Bool t.is_done) [
    | inr d ↦
        let r = mine_before w (suc k) ts j x (ap (λ (xs : List Own). slice_get xs j) (sym (open_cons w k t ts e d).0) ∙ h) in
        record {
          place = suc r.place;
          ticket = r.ticket;
          offset = (let o = r.offset in omega arith);
          row = r.row;
          at = r.at;
          writer = r.writer;
          done = r.done;
          before = (open_cons w k t (take r.place ts) e d).0 ∙ (r.before ∙ ap (take j) (sym (open_cons w k t ts e d).0));
        }
    | inl d ↦ first e d j (λ i g. mine_before w (suc k) ts i x g) (ap (λ (xs : List Own). slice_get xs j) (sym (done_cons w k t ts e d).0) ∙ h)
  ]
]
  where
    first : (t.writer == w) ≡ true → t.is_done ≡ true → (j : ℕ) → ((i : ℕ) → slice_get (mine_in w (suc k) ts) i ≡ Some x → IsMine w (suc k) i ts x)
        → slice_get (own_of k t ∷ mine_in w (suc k) ts) j ≡ Some x → IsMine w k j (t ∷ ts) x
    first e d zero rest g =
        let same : own_of k t ≡ x = cc g in
        let o : k ≡ x.offset = ap (λ (y : Own). y.offset) same in
        record {
          place = 0;
          ticket = t;
          offset = omega arith;
          row = sym (ap (λ (y : Own). y.row) same);
          at = refl;
          writer = eq_from t.writer w e;
          done = d;
          before = nothing_mine w k;
        }
    first e d (suc i) rest g =
        let r = rest i g in
        record {
          place = suc r.place;
          ticket = r.ticket;
          offset = (let o = r.offset in omega arith);
          row = r.row;
          at = r.at;
          writer = r.writer;
          done = r.done;
          before = (done_cons w k t (take r.place ts) e d).0
              ∙ (ap (λ (xs : List Own). own_of k t ∷ xs) r.before ∙ ap (take (suc i)) (sym (done_cons w k t ts e d).0));
        }

get_take : {A : Type 0} (n i : ℕ) (xs : List A) → i < n → slice_get (take n xs) i ≡ slice_get xs i
get_take zero i xs lt = absurd (omega arith)
get_take (suc n) i [] lt = refl
get_take (suc n) zero (x ∷ xs) lt = refl
get_take (suc n) (suc i) (x ∷ xs) lt = get_take n i xs (omega arith)

take_short : {A : Type 0} (n i : ℕ) (x : A) (xs : List A) → slice_get (take n xs) i ≡ Some x → i < n
take_short zero i x xs h = absurd (cc h)
take_short (suc n) i x [] h = absurd (cc h)
take_short (suc n) zero x (y ∷ ys) h = omega arith
take_short (suc n) (suc i) x (y ∷ ys) h = let r = take_short n i x ys h in omega arith

-- the chain before a finished ticket is that of what its writer had finished
pub chain_own : (sh : Layout) (m : Base) (w j : ℕ) (s : Spot) (x : Own) → BaseLaw sh m → slice_get (mine_in w 0 m.log) j ≡ Some x
    → chain sh m.log w s x.offset ≡ mine_chain sh s (take j (mine_in w 0 m.log))
chain_own sh m w j s x law at =
    let r = mine_before w 0 m.log j x at in
    let o : x.offset ≡ r.place = (let e = r.offset in omega arith) in
    let front : List Ticket = take r.place m.log in
    let by_mine : mine_chain sh s (mine_in w 0 front) ≡ walk sh w s 0 front r.place =
    mine_walk sh w s 0 front r.place (λ i u there e. settled r.place r.ticket r.at r.writer i u there e) in
    ap (chain sh m.log w s) o
    ∙ (sym (chain_same sh front m.log w s r.place (λ i lt. ap (entry_at sh w s i) (get_take r.place i m.log lt)))
    ∙ (chain_walk sh front w s r.place ∙ (sym by_mine ∙ ap (mine_chain sh s) r.before)))
  where
    settled : (n : ℕ) (t : Ticket) → slice_get m.log n ≡ Some t → t.writer ≡ w → (i : ℕ) (u : Ticket) → slice_get (take n m.log) i ≡ Some u → u.writer ≡ w
        → Settled sh s.lane n (0 + i) u
    settled n t here tw i u there e =
        let lt = take_short n i u m.log there in
        let at_log : slice_get m.log i ≡ Some u = sym (get_take n i m.log lt) ∙ there in
        let d = law.flight i n u t at_log here (e ∙ sym tw) lt in
        inl (d, omega arith, λ p leads. law.linked i s.lane u p at_log d leads)

-- a word of the cell of an own finished ticket
pub own_cell : (sh : Layout) (m : Base) (p : Pass) (k j i l h : ℕ) (q : List ℕ) (b : Book) (x : Own) → BaseLaw sh m → PassLaw sh m p → Holds p k b
    → slice_get b.mine j ≡ Some x → suc i < sh.sizes.ticket_words
    → sh.use_of i ≡ version l h → sh.path x.row l ≡ Some q
    → word_at sh m.words (cell x.offset i) ≡ version_word sh l h (mine_chain sh (spot l q) (take j b.mine)) x.row
own_cell sh m p k j i l h q b x law knows held at within is leads =
    let own = knows.books k b held in
    let mine : b.mine ≡ mine_in b.writer 0 m.log = ap (λ (c : Book). c.mine) own.1 in
    let at' : slice_get (mine_in b.writer 0 m.log) j ≡ Some x = ap (λ (xs : List Own). slice_get xs j) (sym mine) ∙ at in
    let r = mine_before b.writer 0 m.log j x at' in
    let t = r.ticket in
    let o : x.offset ≡ r.place = (let e = r.offset in omega arith) in
    let leads' : sh.path t.row l ≡ Some q = ap (λ (y : RowValue). sh.path y l) (sym r.row) ∙ leads in
    let filled : i < t.filled = law.full r.place l t r.at (law.linked r.place l t q r.at r.done leads') i h is within in
    ap (λ (n : ℕ). word_at sh m.words (cell n i)) o
    ∙ (word_filled sh m r.place i t law r.at filled within
    ∙ (ap (used_word sh m.log r.place t) is ∙ (ap (lane_word sh m.log r.place l h t) leads'
    ∙ (ap₂ (λ (n w : ℕ). version_word sh l h (chain sh m.log w (spot l q) n) t.row) (sym o) r.writer
    ∙ (ap (λ (c : List (ℕ × RowValue)). version_word sh l h c t.row)
    (chain_own sh m b.writer j (spot l q) x law at' ∙ ap (λ (xs : List Own). mine_chain sh (spot l q) (take j xs)) (sym mine))
    ∙ ap (version_word sh l h (mine_chain sh (spot l q) (take j b.mine))) (sym r.row))))))

-- at rest, a writer's whole chain is that of what it has finished
chain_rest : (sh : Layout) (m : Base) (w : ℕ) (s : Spot) → BaseLaw sh m → flight_in w 0 m.log ≡ None
    → chain sh m.log w s (length m.log) ≡ mine_chain sh s (mine_in w 0 m.log)
chain_rest sh m w s law none =
    chain_walk sh m.log w s (length m.log) ∙ sym (mine_walk sh w s 0 m.log (length m.log) (λ i u there e.
    let d = none_flying w 0 m.log i u none there e in
    inl (d, (let lt = slice_get_within m.log i u there in omega arith), λ p leads. law.linked i s.lane u p there d leads)))

-- with a ticket in flight it is that, with this one before it where it is linked there
none_past : (sh : Layout) (m : Base) (w : ℕ) (s : Spot) (o : ℕ) (t : Ticket) → BaseLaw sh m → slice_get m.log o ≡ Some t → t.is_done ≡ false → t.writer ≡ w
    → (i : ℕ) → o < i → entry_at sh w s i (slice_get m.log i) ≡ []
none_past sh m w s o t law at flies e i lt = go (slice_get m.log i) refl
  where
    go : (x : Option Ticket) → slice_get m.log i ≡ x → entry_at sh w s i (slice_get m.log i) ≡ []
    go None f = ap (entry_at sh w s i) f ∙ entry_none sh w s i
    go (Some u) f = ap (entry_at sh w s i) f ∙ elim (cases_Bool (links sh w s u)) [
      | inr h ↦ entry_unlinked sh w s i u h
      | inl h ↦ absurd (none_after m.log o i t u law.flight at flies f ((links_true sh w s u h).0 ∙ sym e) lt)
    ]

links_flying : (sh : Layout) (w : ℕ) (s : Spot) (f : Flight)
    → links sh w s (ticket_of w f) ≡ cond (has f.linked s.lane) (same_path (sh.path f.row s.lane) s.path) false
unfolding links
links_flying sh w s f = ap (λ (b : Bool). cond b (cond (has f.linked s.lane) (same_path (sh.path f.row s.lane) s.path) false) false) (eq_true w w refl)

pub own_head_is : (sh : Layout) (m : Base) (p : Pass) (k : ℕ) (b : Book) (n d l : ℕ) (q : List ℕ) → BaseLaw sh m → PassLaw sh m p → Holds p k b
    → IsReal sh.sizes (head_slot sh.sizes n d b.writer) → Knows p (spot l q) n → suc (length q) ≡ sh.levels l
    → word_at sh m.words (head_slot sh.sizes n d b.writer) ≡ own_top sh b (spot l (d ∷ q))
own_head_is sh m p k b n d l q law knows held real known leaf = word ∙ go b.flight refl
  where
    s : Spot
    s = spot l (d ∷ q)

    own : (b.writer < sh.sizes.writers) × (b ≡ book_at m b.writer)
    own = knows.books k b held

    mine : b.mine ≡ mine_in b.writer 0 m.log
    mine = ap (λ (c : Book). c.mine) own.1

    word : word_at sh m.words (head_slot sh.sizes n d b.writer) ≡ link_to_newest (chain sh m.log b.writer (spot l (d ∷ q)) (length m.log))
    word = head_word sh m.tails m.log m.stocks m.words n d b.writer l q real own.0 (knows.known known.0 (spot l q, n) known.1)
        (lt_false (suc (length q)) (sh.levels l) (λ h. omega (arith, leaf))) law.spells

    go : (x : Option Flight) → b.flight ≡ x → link_to_newest (chain sh m.log b.writer (spot l (d ∷ q)) (length m.log)) ≡ own_top sh b (spot l (d ∷ q))
    go None e =
        let none : flight_in b.writer 0 m.log ≡ None = sym (ap (λ (c : Book). c.flight) own.1) ∙ e in
        ap link_to_newest (chain_rest sh m b.writer (spot l (d ∷ q)) law none ∙ ap (mine_chain sh (spot l (d ∷ q))) (sym mine))
        ∙ ap (own_top_by sh b (spot l (d ∷ q))) (sym e)
    go (Some f) e =
        let A = aloft sh m p k b f law knows (held, e) in
        let lt : f.offset < length m.log = slice_get_within m.log f.offset (ticket_of b.writer f) A.at in
        let past = none_past sh m b.writer (spot l (d ∷ q)) f.offset (ticket_of b.writer f) law A.at refl refl in
        let test : Bool = cond (has f.linked l) (same_path (sh.path f.row l) (d ∷ q)) false in
        let same : links sh b.writer (spot l (d ∷ q)) (ticket_of b.writer f) ≡ test = links_flying sh b.writer (spot l (d ∷ q)) f in
        elim (cases_Bool test) [
          | inl g ↦
              let here : entry_at sh b.writer (spot l (d ∷ q)) f.offset (slice_get m.log f.offset) ≡ (f.offset, f.row) ∷ [] =
              ap (entry_at sh b.writer (spot l (d ∷ q)) f.offset) A.at
              ∙ entry_linked sh b.writer (spot l (d ∷ q)) f.offset (ticket_of b.writer f) (same ∙ g) in
              chain_top sh m.log b.writer (spot l (d ∷ q)) f.offset (length m.log) f.row lt here (λ i low small. past i low)
              ∙ (sym (ap (λ (t : Bool). cond t (suc f.offset) (link_to_newest (mine_chain sh (spot l (d ∷ q)) b.mine))) g)
              ∙ ap (own_top_by sh b (spot l (d ∷ q))) (sym e))
          | inr g ↦
              let here : entry_at sh b.writer (spot l (d ∷ q)) f.offset (slice_get m.log f.offset) ≡ [] =
              ap (entry_at sh b.writer (spot l (d ∷ q)) f.offset) A.at
              ∙ entry_unlinked sh b.writer (spot l (d ∷ q)) f.offset (ticket_of b.writer f) (same ∙ g) in
              let rest = chain_from sh m.log b.writer (spot l (d ∷ q)) f.offset (length m.log) (omega arith) (λ i ge small. from_here here past i ge) in
              let below = chain_mine sh m b.writer f.offset (spot l (d ∷ q)) (ticket_of b.writer f) law A.at refl refl in
              ap link_to_newest (rest ∙ (sym below ∙ ap (mine_chain sh (spot l (d ∷ q))) (sym mine)))
              ∙ (sym (ap (λ (t : Bool). cond t (suc f.offset) (link_to_newest (mine_chain sh (spot l (d ∷ q)) b.mine))) g)
              ∙ ap (own_top_by sh b (spot l (d ∷ q))) (sym e))
        ]
      where
        from_here : entry_at sh b.writer (spot l (d ∷ q)) f.offset (slice_get m.log f.offset) ≡ []
            → ((i : ℕ) → f.offset < i → entry_at sh b.writer (spot l (d ∷ q)) i (slice_get m.log i) ≡ []) → (i : ℕ) → f.offset ≤ i
            → entry_at sh b.writer (spot l (d ∷ q)) i (slice_get m.log i) ≡ []
        from_here here past i ge = elim (cases_eq f.offset i) [
          | inl same ↦ subst (λ (j : ℕ). entry_at sh b.writer (spot l (d ∷ q)) j (slice_get m.log j) ≡ []) same here
          | inr ne ↦ past i (omega arith)
        ]

-- What was seen of a writer are the first of its finished tickets.
from_nil : (w k : ℕ) → mine_from w k [] ≡ []
unfolding mine_from
from_nil w k = refl

from_cons : (w k : ℕ) (e : Entry) (es : List Entry)
    → mine_from w k (e ∷ es) ≡ cond (e.writer == w) (record { offset = k; row = e.row } ∷ mine_from w (suc k) es) (mine_from w (suc k) es)
unfolding mine_from
from_cons w k e es = refl

front_zero : (log : List Ticket) → front 0 log ≡ []
unfolding front
front_zero log = refl

front_nil : (n : ℕ) → front n [] ≡ []
unfolding front
front_nil zero = refl
front_nil (suc n) = refl

front_cons : (n : ℕ) (t : Ticket) (ts : List Ticket) → front (suc n) (t ∷ ts) ≡ entry t.writer t.row ∷ front n ts
unfolding front
front_cons n t ts = refl

abbrev Begins : List Own → List Own → Type 0
Begins xs ys = (rest : List Own) × (ys ≡ xs ++ rest)

mine_begins : (w k n : ℕ) (log : List Ticket) → ((o : ℕ) (t : Ticket) → o < n → slice_get log o ≡ Some t → t.is_done ≡ true)
    → Begins (mine_from w k (front n log)) (mine_in w k log)
mine_begins w k zero log all = (mine_in w k log, ap (λ (es : List Own). es ++ mine_in w k log) (sym (ap (mine_from w k) (front_zero log) ∙ from_nil w k)))
mine_begins w k (suc n) [] all = (mine_in w k [], ap (λ (es : List Own). es ++ mine_in w k []) (sym (ap (mine_from w k) (front_nil (suc n)) ∙ from_nil w k)))
mine_begins w k (suc n) (t ∷ ts) all =
    let r = mine_begins w (suc k) n ts (λ o u lt at. all (suc o) u (omega arith) at) in
    let from : mine_from w k (front (suc n) (t ∷ ts)) ≡ cond (t.writer == w) (own_of k t ∷ mine_from w (suc k) (front n ts))
    (mine_from w (suc k) (front n ts)) = ap (mine_from w k) (front_cons n t ts) ∙ from_cons w k (entry t.writer t.row) (front n ts) in (
      r.0,
      elim (cases_Bool (t.writer == w)) [
        | inr e ↦ (other_cons w k t ts e).0
            ∙ (r.1 ∙ ap (λ (xs : List Own). xs ++ r.0)
            (sym (from ∙ ap (λ (b : Bool). cond b (own_of k t ∷ mine_from w (suc k) (front n ts)) (mine_from w (suc k) (front n ts))) e)))
        | inl e ↦ (done_cons w k t ts e (all 0 t (omega arith) refl)).0
            ∙ (ap (λ (xs : List Own). own_of k t ∷ xs) r.1
            ∙ ap (λ (xs : List Own). xs ++ r.0)
            (sym (from ∙ ap (λ (b : Bool). cond b (own_of k t ∷ mine_from w (suc k) (front n ts)) (mine_from w (suc k) (front n ts))) e)))
      ],
    )

pub mine_seen : (sh : Layout) (m : Base) (p : Pass) (k : ℕ) (b : Book) → BaseLaw sh m → PassLaw sh m p → Holds p k b
    → take (length (mine_from b.writer 0 p.seen)) b.mine ≡ mine_from b.writer 0 p.seen
mine_seen sh m p k b law knows held =
    let r = mine_begins b.writer 0 (length p.seen) m.log (λ o t lt at. law.done o t (omega (arith, knows.within)) at) in
    let mine : b.mine ≡ mine_from b.writer 0 p.seen ++ r.0 = ap (λ (c : Book). c.mine) (knows.books k b held).1
    ∙ (r.1 ∙ ap (λ (es : List Entry). mine_from b.writer 0 es ++ r.0) (sym knows.seen)) in
    ap (take (length (mine_from b.writer 0 p.seen))) mine ∙ take_at (mine_from b.writer 0 p.seen) r.0 (length (mine_from b.writer 0 p.seen)) refl
