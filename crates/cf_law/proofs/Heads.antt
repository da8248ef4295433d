-- A head, a cell's word, a done word and a new ticket keep what the words mean.
use Rattle.std.proofs.Common.{◌≡◌, ℕ, ◌+◌, ◌*◌, ◌/◌, ◌%◌, ◌<◌, ◌==◌, zero, suc, List, [], ◌∷◌, ◌++◌, length, set, Option, Some, None, slice_get, cond, Bool, true, false, inl, inr, refl, arith, ap, ap₂, sym, ◌∙◌, subst, length-set, length-append}
use Rattle.cf_row.proofs.Lists.{get_push_other, get_push_same}
use Rattle.cf_row.proofs.Truths.{eq_false, eq_true, lt_false, lt_true}
use Rattle.cf_row.specs.Row.{RowValue}
use Rattle.cf_shape.specs.Places.{head_slot}
use Rattle.cf_shape.specs.Uses.{Use}
use Rattle.std.proofs.lemmas.Bool.{cases_eq, cases_lt, cases_Bool}
use Rattle.std.specs.Bool.{nat_lt}
use Rattle.std.proofs.lemmas.Option.{slice_get_within, slice_get_past}
use Rattle.std.proofs.lemmas.Nat.{mul-add-lt, div-add-mod'}
use Rattle.cf_shape.specs.Places.{Slot, place, IsReal, word_total}
use Rattle.cf_shape.specs.Places.Slot.{tail, cell, root, body}
use Rattle.cf_law.proofs.Forms.{ticket_with_word, ticket_with_head, ticket_with_done, CanFill, CanHead}
use Rattle.cf_law.specs.Words.{Spot, spot, Layout, Ticket, NodeStock, node_at, NodeWord, BodyWord, is_inner, IsWordOf, Spells, links, entry_at, chain, link_to_newest, tail_word, ticket_word, full_word, used_word, lane_word, version_word, done_word, fresh_ticket}
use Rattle.cf_shape.specs.Uses.Use.{plain, version}
use Rattle.cf_law.specs.Law.{LayoutLaw, NodesLaw, FlightLaw, Skips}
use Rattle.cf_law.proofs.Nodes.{cond_zero, row_of, col_of, node_within}
use Rattle.cf_law.proofs.Stores.{store_keeps}
use Rattle.cf_law.proofs.Chains.{links_of, same_bool, has_more, has_first, has_rest, links_true, links_intro, entry_none, entry_linked, entry_unlinked, entry_same, chain_same, chain_from, chain_top, fresh_unlinked}

pub get_set_same : {A : Type 0} (xs : List A) (i : ℕ) (x y : A) → slice_get xs i ≡ Some y → slice_get (set xs i x) i ≡ Some x
get_set_same [] i x y h = absurd (cc)
get_set_same (z ∷ xs) zero x y h = refl
get_set_same (z ∷ xs) (suc i) x y h = get_set_same xs i x y h

pub get_set_other : {A : Type 0} (xs : List A) (i k : ℕ) (x : A) → (k ≡ i → ⊥) → slice_get (set xs i x) k ≡ slice_get xs k
get_set_other [] i k x ne = refl
get_set_other (z ∷ xs) zero zero x ne = absurd (ne refl)
get_set_other (z ∷ xs) zero (suc k) x ne = refl
get_set_other (z ∷ xs) (suc i) zero x ne = refl
get_set_other (z ∷ xs) (suc i) (suc k) x ne = get_set_other xs i k x (λ e. ne (ap suc e))

head_word_keeps : (sh : Layout) (log log' : List Ticket) (bs : List NodeStock) (s : Spot) (j v : ℕ) (b : Bool)
    → (b ≡ false → link_to_newest (chain sh log (j % sh.sizes.writers) (spot s.lane (j / sh.sizes.writers ∷ s.path)) (length log)) ≡ link_to_newest
    (chain sh log' (j % sh.sizes.writers) (spot s.lane (j / sh.sizes.writers ∷ s.path)) (length log')))
    → NodeWord sh log bs s j v b → NodeWord sh log' bs s j v b
head_word_keeps sh log log' bs s j v true same h = h
head_word_keeps sh log log' bs s j v false same h = h ∙ same refl

body_log_keeps : (sh : Layout) (log log' : List Ticket) (bs : List NodeStock) (n j v : ℕ) (o : Option Spot)
    → ((s : Spot) (i : ℕ) → o ≡ Some s → j ≡ suc i → is_inner sh s ≡ false
    → link_to_newest (chain sh log (i % sh.sizes.writers) (spot s.lane (i / sh.sizes.writers ∷ s.path)) (length log)) ≡ link_to_newest
    (chain sh log' (i % sh.sizes.writers) (spot s.lane (i / sh.sizes.writers ∷ s.path)) (length log')))
    → BodyWord sh log bs n j v o → BodyWord sh log' bs n j v o
body_log_keeps sh log log' bs n zero v None heads h = h
body_log_keeps sh log log' bs n (suc j) v None heads h = h
body_log_keeps sh log log' bs n zero v (Some s) heads h = h
body_log_keeps sh log log' bs n (suc j) v (Some s) heads h = head_word_keeps sh log log' bs s j v (is_inner sh s) (λ e. heads s j refl refl e) h

-- Where the log changes, a slot keeps its meaning if its own word does.
pub log_keeps : (sh : Layout) (ts ts' : ℕ × ℕ) (log log' : List Ticket) (bs : List NodeStock) (u : Slot) (x : ℕ)
    → ((k : ℕ) → u ≡ tail k → tail_word ts k ≡ tail_word ts' k)
    → ((o i : ℕ) → u ≡ cell o i → ticket_word sh log o i (slice_get log o) ≡ ticket_word sh log' o i (slice_get log' o))
    → ((n j : ℕ) (s : Spot) → u ≡ body n (suc j) → node_at sh.sizes.nodes bs n ≡ Some s → is_inner sh s ≡ false
    → link_to_newest (chain sh log (j % sh.sizes.writers) (spot s.lane (j / sh.sizes.writers ∷ s.path)) (length log)) ≡ link_to_newest
    (chain sh log' (j % sh.sizes.writers) (spot s.lane (j / sh.sizes.writers ∷ s.path)) (length log')))
    → IsWordOf sh ts log bs u x → IsWordOf sh ts' log' bs u x
log_keeps sh ts ts' log log' bs (tail k) x tails cells heads h = h ∙ tails k refl
log_keeps sh ts ts' log log' bs (cell o i) x tails cells heads h = h ∙ cells o i refl
log_keeps sh ts ts' log log' bs (root l d) x tails cells heads h = h
log_keeps sh ts ts' log log' bs (body n j) x tails cells heads h =
    body_log_keeps sh log log' bs n j x (node_at sh.sizes.nodes bs n) (λ s i at is inner. heads n i s (ap (body n) is) at inner) h

-- a full word of a ticket depends on the log through its chains below it alone
full_same : (sh : Layout) (log log' : List Ticket) (o i : ℕ) (t : Ticket) (u : Use)
    → ((s : Spot) → chain sh log t.writer s o ≡ chain sh log' t.writer s o)
    → used_word sh log o t u ≡ used_word sh log' o t u
full_same sh log log' o i t (plain k) same = refl
full_same sh log log' o i t (version l j) same = go (sh.path t.row l)
  where
    go : (p : Option (List ℕ)) → lane_word sh log o l j t p ≡ lane_word sh log' o l j t p
    go None = refl
    go (Some p) = ap (λ (c : List (ℕ × RowValue)). version_word sh l j c t.row) (same (spot l p))

ticket_same : (sh : Layout) (log log' : List Ticket) (o i : ℕ) (t : Option Ticket)
    → ((r : Ticket) (s : Spot) → t ≡ Some r → chain sh log r.writer s o ≡ chain sh log' r.writer s o)
    → ticket_word sh log o i t ≡ ticket_word sh log' o i t
ticket_same sh log log' o i None same = refl
ticket_same sh log log' o i (Some r) same =
    ap (λ (k : ℕ). cond (suc i == sh.sizes.ticket_words) (done_word r.is_done) (cond (nat_lt i r.filled) k 0))
    (full_same sh log log' o i r (sh.use_of i) (λ s. same r s refl))

-- A head. Where the writer, lane or path is another, the link changes no entry.
link_elsewhere : (sh : Layout) (w : ℕ) (s : Spot) (t : Ticket) (l : ℕ) (p : List ℕ) → sh.path t.row l ≡ Some p → (t.writer ≡ w → s ≡ spot l p → ⊥)
    → links sh w s t ≡ links sh w s (ticket_with_head l t)
link_elsewhere sh w s t l p leads far = same_bool _ _
    (λ h. let x = links_true sh w s t h in links_intro sh w s (ticket_with_head l t) x.0 (has_rest l s.lane t.linked x.1) x.2)
    (λ h. let x = links_true sh w s (ticket_with_head l t) h in
    elim (has_more l s.lane t.linked x.1) [
      | inl e ↦
          let q : p ≡ s.path = cc (ap (sh.path t.row) e, leads, x.2) in
          absurd (far x.0 (ap₂ spot (sym e) (sym q)))
      | inr m ↦ links_intro sh w s t x.0 m x.2
    ])

-- the entries of the log after the link, elsewhere
entries_elsewhere : (sh : Layout) (log : List Ticket) (o : ℕ) (t : Ticket) (l w : ℕ) (s : Spot) (p : List ℕ) → slice_get log o ≡ Some t
    → sh.path t.row l ≡ Some p
    → (t.writer ≡ w → s ≡ spot l p → ⊥) → (i : ℕ) → entry_at sh w s i (slice_get log i) ≡ entry_at sh w s i (slice_get (set log o (ticket_with_head l t)) i)
entries_elsewhere sh log o t l w s p at leads far i = elim (cases_eq i o) [
  | inl e ↦
      let a : entry_at sh w s o (slice_get log o) ≡ entry_at sh w s o (Some (ticket_with_head l t)) = ap (entry_at sh w s o) at
      ∙ entry_same sh w s o t (ticket_with_head l t) (link_elsewhere sh w s t l p leads far) refl in
      let b : entry_at sh w s o (slice_get log o) ≡ entry_at sh w s o (slice_get (set log o (ticket_with_head l t)) o) = a
      ∙ ap (entry_at sh w s o) (sym (get_set_same log o (ticket_with_head l t) t at)) in
      subst (λ (k : ℕ). entry_at sh w s k (slice_get log k) ≡ entry_at sh w s k (slice_get (set log o (ticket_with_head l t)) k)) (sym e) b
  | inr ne ↦ ap (entry_at sh w s i) (sym (get_set_other log o i (ticket_with_head l t) ne))
]

-- no ticket of the writer stands after the one in flight
pub none_after : (log : List Ticket) (o i : ℕ) (t u : Ticket) → FlightLaw log → slice_get log o ≡ Some t → t.is_done ≡ false → slice_get log i ≡ Some u
    → u.writer ≡ t.writer → o < i → ⊥
none_after log o i t u flight at flies at' same lt = absurd (cc (flight o i t u at at' (sym same) lt, flies))

-- a chain below a ticket of the writer stays
chains_below : (sh : Layout) (log : List Ticket) (o : ℕ) (t u : Ticket) (l i : ℕ) (s : Spot) (p : List ℕ) → FlightLaw log → slice_get log o ≡ Some t
    → t.is_done ≡ false → sh.path t.row l ≡ Some p
    → slice_get log i ≡ Some u → chain sh log u.writer s i ≡ chain sh (set log o (ticket_with_head l t)) u.writer s i
chains_below sh log o t u l i s p flight at flies leads at' = elim (cases_lt o i) [
  | inl lt ↦ chain_same sh log (set log o (ticket_with_head l t)) u.writer s i
      (λ k h. entries_elsewhere sh log o t l u.writer s p at leads (λ e f. none_after log o i t u flight at flies at' (sym e) lt) k)
  | inr ge ↦ chain_same sh log (set log o (ticket_with_head l t)) u.writer s i
      (λ k h. ap (entry_at sh u.writer s k) (sym (get_set_other log o k (ticket_with_head l t) (λ e. absurd (omega arith)))))
]

head_cells : (sh : Layout) (log : List Ticket) (o : ℕ) (t : Ticket) (l i k : ℕ) (p : List ℕ) → FlightLaw log → slice_get log o ≡ Some t → t.is_done ≡ false
    → sh.path t.row l ≡ Some p
    → ticket_word sh log i k (slice_get log i) ≡ ticket_word sh (set log o (ticket_with_head l t)) i k (slice_get (set log o (ticket_with_head l t)) i)
head_cells sh log o t l i k p flight at flies leads =
    let log' = set log o (ticket_with_head l t) in
    let same = ticket_same sh log log' i k (slice_get log i) (λ r s e. chains_below sh log o t r l i s p flight at flies leads e) in
    elim (cases_eq i o) [
      | inl e ↦
          let here : slice_get log i ≡ Some t = ap (slice_get log) e ∙ at in
          let there : slice_get log' i ≡ Some (ticket_with_head l t) = ap (slice_get log') e ∙ get_set_same log o (ticket_with_head l t) t at in
          same ∙ (ap (ticket_word sh log' i k) here ∙ ap (ticket_word sh log' i k) (sym there))
      | inr ne ↦ same ∙ ap (ticket_word sh log' i k) (sym (get_set_other log o i (ticket_with_head l t) ne))
    ]

-- the head that changes is that of the ticket's own leaf
head_far : (sh : Layout) (log : List Ticket) (bs : List NodeStock) (o : ℕ) (t : Ticket) (l d : ℕ) (p : List ℕ) (n : ℕ) → NodesLaw sh bs
    → CanHead sh log bs o t l d p n
    → (k j : ℕ) (s : Spot) → node_at sh.sizes.nodes bs k ≡ Some s → (body k (suc j) ≡ head_slot sh.sizes n d t.writer → ⊥)
    → t.writer ≡ j % sh.sizes.writers → spot s.lane (j / sh.sizes.writers ∷ s.path) ≡ spot l (d ∷ p) → ⊥
head_far sh log bs o t l d p n law can k j s at ne w e =
    let lanes : s.lane ≡ l = ap (λ (q : Spot). q.lane) e in
    let paths : j / sh.sizes.writers ∷ s.path ≡ d ∷ p = ap (λ (q : Spot). q.path) e in
    let nibble : j / sh.sizes.writers ≡ d = cc paths in
    let rest : s.path ≡ p = cc paths in
    let node : k ≡ n = law.unique k n s at (can.leaf ∙ ap (λ (q : Spot). Some q) (sym (ap₂ spot lanes rest))) in
    let column : j ≡ d * sh.sizes.writers + t.writer = omega (arith, div-add-mod' j sh.sizes.writers, ap (λ (q : ℕ). q * sh.sizes.writers) nibble, w) in
    ne (ap₂ body node (ap suc column))

head_others : (sh : Layout) (ts : ℕ × ℕ) (log : List Ticket) (bs : List NodeStock) (o : ℕ) (t : Ticket) (l d : ℕ) (p : List ℕ) (n : ℕ) → NodesLaw sh bs
    → FlightLaw log → CanHead sh log bs o t l d p n
    → (u : Slot) → (u ≡ head_slot sh.sizes n d t.writer → ⊥) → (x : ℕ) → IsWordOf sh ts log bs u x → IsWordOf sh ts (set log o (ticket_with_head l t)) bs u x
head_others sh ts log bs o t l d p n law flight can u ne x = let log' = set log o (ticket_with_head l t) in
    log_keeps sh ts ts log log' bs u x (λ k e. refl)
    (λ i k e. head_cells sh log o t l i k (d ∷ p) flight can.at can.flies can.leads)
    (λ k j s e at inner.
    let c = chain_same sh log log' (j % sh.sizes.writers) (spot s.lane (j / sh.sizes.writers ∷ s.path)) (length log) (λ i h.
    entries_elsewhere sh log o t l (j % sh.sizes.writers) (spot s.lane (j / sh.sizes.writers ∷ s.path)) (d ∷ p) can.at can.leads
    (λ w f. head_far sh log bs o t l d p n law can k j s at (λ g. ne (e ∙ g)) w f) i) in
    ap link_to_newest
    (c ∙ ap (chain sh log' (j % sh.sizes.writers) (spot s.lane (j / sh.sizes.writers ∷ s.path))) (sym (length-set log o (ticket_with_head l t)))))

-- the new head
own_chain : (sh : Layout) (log : List Ticket) (bs : List NodeStock) (o : ℕ) (t : Ticket) (l d : ℕ) (p : List ℕ) (n : ℕ) → FlightLaw log
    → CanHead sh log bs o t l d p n
    → link_to_newest (chain sh (set log o (ticket_with_head l t)) t.writer (spot l (d ∷ p)) (length (set log o (ticket_with_head l t)))) ≡ suc o
own_chain sh log bs o t l d p n flight can = let log' = set log o (ticket_with_head l t) in let s = spot l (d ∷ p) in
    let there : slice_get log' o ≡ Some (ticket_with_head l t) = get_set_same log o (ticket_with_head l t) t can.at in
    chain_top sh log' t.writer s o (length log') t.row (slice_get_within log' o _ there)
    (ap (entry_at sh t.writer s o) there
    ∙ entry_linked sh t.writer s o (ticket_with_head l t) (links_intro sh t.writer s (ticket_with_head l t) refl (has_first l t.linked) can.leads))
    (λ i lt within. after i lt (slice_get log i) refl)
  where
    after : (i : ℕ) → o < i → (u : Option Ticket) → slice_get log i ≡ u
        → entry_at sh t.writer (spot l (d ∷ p)) i (slice_get (set log o (ticket_with_head l t)) i) ≡ []
    after i lt None e = ap (entry_at sh t.writer (spot l (d ∷ p)) i) (get_set_other log o i (ticket_with_head l t) (λ f. absurd (omega arith)) ∙ e)
        ∙ entry_none sh t.writer (spot l (d ∷ p)) i
    after i lt (Some u) e =
        ap (entry_at sh t.writer (spot l (d ∷ p)) i) (get_set_other log o i (ticket_with_head l t) (λ f. absurd (omega arith)) ∙ e)
        ∙ elim (cases_Bool (links sh t.writer (spot l (d ∷ p)) u)) [
          | inr f ↦ entry_unlinked sh t.writer (spot l (d ∷ p)) i u f
          | inl h ↦ absurd (none_after log o i t u flight can.at can.flies e (links_true sh t.writer (spot l (d ∷ p)) u h).0 lt)
        ]

pub leaf_not_inner : (sh : Layout) (r : RowValue) (l d : ℕ) (p : List ℕ) → LayoutLaw sh → sh.path r l ≡ Some (d ∷ p) → is_inner sh (spot l p) ≡ false
leaf_not_inner sh r l d p shaped leads = lt_false _ _ (λ h. omega (arith, shaped.long r l (d ∷ p) leads, h))

pub head_real : (sh : Layout) (log : List Ticket) (bs : List NodeStock) (o : ℕ) (t : Ticket) (l d : ℕ) (p : List ℕ) (n : ℕ) → LayoutLaw sh → NodesLaw sh bs
    → CanHead sh log bs o t l d p n
    → IsReal sh.sizes (head_slot sh.sizes n d t.writer)
head_real sh log bs o t l d p n shaped law can = (
  node_within sh.sizes.nodes sh.sizes.writers bs n _ law.writers law.room can.leaf,
  omega (arith, mul-add-lt d sh.sizes.writers t.writer 16 (shaped.nibble t.row l d p can.leads) can.writer),
)

pub head_keeps : (sh : Layout) (ts : ℕ × ℕ) (log : List Ticket) (bs : List NodeStock) (words : List ℕ) (o : ℕ) (t : Ticket) (l d : ℕ) (p : List ℕ) (n : ℕ)
    → LayoutLaw sh → NodesLaw sh bs → FlightLaw log → CanHead sh log bs o t l d p n → length words ≡ word_total sh.sizes
    → Spells sh ts log bs words
    → Spells sh ts (set log o (ticket_with_head l t)) bs (set words (place sh.sizes (head_slot sh.sizes n d t.writer)) (suc o))
head_keeps sh ts log bs words o t l d p n shaped law flight can len spells =
    let log' = set log o (ticket_with_head l t) in
    let own : suc o ≡ link_to_newest
    (chain sh log' ((d * sh.sizes.writers + t.writer) % sh.sizes.writers) (spot l ((d * sh.sizes.writers + t.writer) / sh.sizes.writers ∷ p))
    (length log')) =
    sym (ap₂ (λ (w e : ℕ). link_to_newest (chain sh log' w (spot l (e ∷ p)) (length log'))) (col_of sh.sizes.writers d t.writer can.writer)
    (row_of sh.sizes.writers d t.writer can.writer) ∙ own_chain sh log bs o t l d p n flight can) in
    let word : NodeWord sh log' bs (spot l p) (d * sh.sizes.writers + t.writer) (suc o) (is_inner sh (spot l p)) =
    subst (λ (b : Bool). NodeWord sh log' bs (spot l p) (d * sh.sizes.writers + t.writer) (suc o) b)
    (sym (leaf_not_inner sh t.row l d p shaped can.leads)) own in
    store_keeps sh ts ts log log' bs bs words (head_slot sh.sizes n d t.writer) (suc o) len (head_real sh log bs o t l d p n shaped law can) spells
    (λ u r ne x. head_others sh ts log bs o t l d p n law flight can u ne x)
    (subst (λ (q : Option Spot). BodyWord sh log' bs n (suc (d * sh.sizes.writers + t.writer)) (suc o) q) (sym can.leaf) word)

-- Stored words and done words: what a ticket has filled, and that it is finished, changes no entry.
pub entries_kept : (sh : Layout) (log : List Ticket) (o : ℕ) (t u : Ticket) → slice_get log o ≡ Some t → u.writer ≡ t.writer → u.row ≡ t.row
    → u.linked ≡ t.linked
    → (w : ℕ) (s : Spot) (i : ℕ) → entry_at sh w s i (slice_get log i) ≡ entry_at sh w s i (slice_get (set log o u) i)
entries_kept sh log o t u at ew er el w s i = elim (cases_eq i o) [
  | inl e ↦
      let here : slice_get log i ≡ Some t = ap (slice_get log) e ∙ at in
      let there : slice_get (set log o u) i ≡ Some u = ap (slice_get (set log o u)) e ∙ get_set_same log o u t at in
      ap (entry_at sh w s i) here ∙ (entry_same sh w s i t u (links_of sh w s t u ew er el) (sym er) ∙ ap (entry_at sh w s i) (sym there))
  | inr ne ↦ ap (entry_at sh w s i) (sym (get_set_other log o i u ne))
]

pub retouch_others : (sh : Layout) (ts : ℕ × ℕ) (log : List Ticket) (bs : List NodeStock) (o k : ℕ) (t u : Ticket) → slice_get log o ≡ Some t
    → u.writer ≡ t.writer → u.row ≡ t.row → u.linked ≡ t.linked
    → ((i : ℕ) → (i ≡ k → ⊥) → ticket_word sh (set log o u) o i (Some t) ≡ ticket_word sh (set log o u) o i (Some u))
    → (z : Slot) → (z ≡ cell o k → ⊥) → (x : ℕ) → IsWordOf sh ts log bs z x → IsWordOf sh ts (set log o u) bs z x
retouch_others sh ts log bs o k t u at ew er el words z ne x =
    let log' = set log o u in
    let chains = λ (w : ℕ) (s : Spot) (n : ℕ). chain_same sh log log' w s n (λ i h. entries_kept sh log o t u at ew er el w s i) in
    log_keeps sh ts ts log log' bs z x (λ j e. refl)
    (λ i j e.
    let same : ticket_word sh log i j (slice_get log i) ≡ ticket_word sh log' i j (slice_get log i) =
    ticket_same sh log log' i j (slice_get log i) (λ r s f. chains r.writer s i) in
    elim (cases_eq i o) [
      | inl f ↦
          let here : slice_get log i ≡ Some t = ap (slice_get log) f ∙ at in
          let there : slice_get log' i ≡ Some u = ap (slice_get log') f ∙ get_set_same log o u t at in
          let step : ticket_word sh log' i j (Some t) ≡ ticket_word sh log' i j (Some u) =
          subst (λ (q : ℕ). ticket_word sh log' q j (Some t) ≡ ticket_word sh log' q j (Some u)) (sym f) (words j (λ g. ne (e ∙ ap₂ cell f g))) in
          same ∙ (ap (ticket_word sh log' i j) here ∙ (step ∙ ap (ticket_word sh log' i j) (sym there)))
      | inr far ↦ same ∙ ap (ticket_word sh log' i j) (sym (get_set_other log o i u far))
    ])
    (λ n j s e f inner. ap link_to_newest (chains (j % sh.sizes.writers) (spot s.lane (j / sh.sizes.writers ∷ s.path)) (length log)
    ∙ ap (chain sh log' (j % sh.sizes.writers) (spot s.lane (j / sh.sizes.writers ∷ s.path))) (sym (length-set log o u))))

skipped_zero : (sh : Layout) (log : List Ticket) (o : ℕ) (t : Ticket) (u : Use) → Skips sh t u → used_word sh log o t u ≡ 0
skipped_zero sh log o t (plain i) h = absurd h
skipped_zero sh log o t (version l j) h = ap (lane_word sh log o l j t) h

-- what a fill changes
filled_word : (sh : Layout) (log log' : List Ticket) (o k i : ℕ) (t : Ticket) → CanFill sh log o t k → (i ≡ k → ⊥)
    → ticket_word sh log' o i (Some t) ≡ ticket_word sh log' o i (Some (ticket_with_word k t))
filled_word sh log log' o k i t can ne = ap (λ (n : ℕ). cond (suc i == sh.sizes.ticket_words) (done_word t.is_done) n) (elim (cases_lt i t.filled) [
  | inl lt ↦ ap (λ (b : Bool). cond b (full_word sh log' o t i) 0) (lt_true _ _ lt ∙ sym (lt_true _ _ (omega (arith, can.from))))
  | inr ge ↦ elim (cases_lt i k) [
    | inl lt ↦
        let none : full_word sh log' o t i ≡ 0 = skipped_zero sh log' o t (sh.use_of i) (can.skipped i ge lt) in
        ap (λ (b : Bool). cond b (full_word sh log' o t i) 0) (lt_false _ _ (λ h. omega arith))
        ∙ (sym none ∙ ap (λ (b : Bool). cond b (full_word sh log' o t i) 0) (sym (lt_true i (suc k) (omega arith))))
    | inr far ↦ ap (λ (b : Bool). cond b (full_word sh log' o t i) 0) (lt_false i t.filled (λ h. omega arith) ∙ sym (lt_false i (suc k) (λ h. omega arith)))
  ]
])

pub fill_keeps : (sh : Layout) (ts : ℕ × ℕ) (log : List Ticket) (bs : List NodeStock) (words : List ℕ) (o k : ℕ) (t : Ticket)
    → CanFill sh log o t k → length words ≡ word_total sh.sizes → o < sh.sizes.tickets
    → Spells sh ts log bs words
    → Spells sh ts (set log o (ticket_with_word k t)) bs (set words (place sh.sizes (cell o k)) (full_word sh log o t k))
fill_keeps sh ts log bs words o k t can len room spells =
    let log' = set log o (ticket_with_word k t) in
    let same : full_word sh log o t k ≡ full_word sh log' o t k =
    full_same sh log log' o k t (sh.use_of k)
    (λ s. chain_same sh log log' t.writer s o (λ i h. entries_kept sh log o t (ticket_with_word k t) can.at refl refl refl t.writer s i)) in
    let word : full_word sh log o t k ≡ ticket_word sh log' o k (Some (ticket_with_word k t)) =
    same ∙ (ap (λ (b : Bool). cond b (full_word sh log' o t k) 0) (sym (lt_true k (suc k) (omega arith)))
    ∙ ap (λ (b : Bool). cond b (done_word t.is_done) (cond (nat_lt k (suc k)) (full_word sh log' o t k) 0))
    (sym (eq_false (suc k) sh.sizes.ticket_words (λ e. omega (arith, can.within))))) in
    store_keeps sh ts ts log log' bs bs words (cell o k) (full_word sh log o t k) len (room, omega (arith, can.within)) spells
    (λ u r ne x. retouch_others sh ts log bs o k t (ticket_with_word k t) can.at refl refl refl (λ i far. filled_word sh log log' o k i t can far) u ne x)
    (word ∙ ap (ticket_word sh log' o k) (sym (get_set_same log o (ticket_with_word k t) t can.at)))

pub finish_keeps : (sh : Layout) (ts : ℕ × ℕ) (log : List Ticket) (bs : List NodeStock) (words : List ℕ) (o k : ℕ) (t : Ticket)
    → slice_get log o ≡ Some t → suc k ≡ sh.sizes.ticket_words → length words ≡ word_total sh.sizes → o < sh.sizes.tickets
    → Spells sh ts log bs words
    → Spells sh ts (set log o (ticket_with_done t)) bs (set words (place sh.sizes (cell o k)) 1)
finish_keeps sh ts log bs words o k t at last len room spells =
    let log' = set log o (ticket_with_done t) in
    let word : 1 ≡ ticket_word sh log' o k (Some (ticket_with_done t)) =
    ap (λ (b : Bool). cond b 1 (cond (nat_lt k t.filled) (full_word sh log' o t k) 0)) (sym (eq_true (suc k) sh.sizes.ticket_words last)) in
    store_keeps sh ts ts log log' bs bs words (cell o k) 1 len (room, omega arith) spells
    (λ u r ne x. retouch_others sh ts log bs o k t (ticket_with_done t) at refl refl refl
    (λ i far. let other : (suc i == sh.sizes.ticket_words) ≡ false = eq_false _ _ (λ e. far (omega arith)) in
    ap (λ (b : Bool). cond b (done_word t.is_done) (cond (nat_lt i t.filled) (full_word sh log' o t i) 0)) other
    ∙ ap (λ (b : Bool). cond b 1 (cond (nat_lt i t.filled) (full_word sh log' o t i) 0)) (sym other)) u ne x)
    (word ∙ ap (ticket_word sh log' o k) (sym (get_set_same log o (ticket_with_done t) t at)))

-- A ticket: a new one has no entry, and its words are 0.
pub entries_pushed : (sh : Layout) (log : List Ticket) (w : ℕ) (r : RowValue) (v : ℕ) (s : Spot) (i : ℕ)
    → entry_at sh v s i (slice_get log i) ≡ entry_at sh v s i (slice_get (log ++ fresh_ticket w r ∷ []) i)
entries_pushed sh log w r v s i = elim (cases_eq i (length log)) [
  | inr ne ↦ ap (entry_at sh v s i) (sym (get_push_other log (fresh_ticket w r) i ne))
  | inl e ↦
      let here : slice_get log i ≡ None = slice_get_past log i (omega arith) in
      let there : slice_get (log ++ fresh_ticket w r ∷ []) i ≡ Some (fresh_ticket w r) = ap (slice_get (log ++ fresh_ticket w r ∷ [])) e
      ∙ get_push_same log (fresh_ticket w r) in
      ap (entry_at sh v s i) here
      ∙ (entry_none sh v s i ∙ (sym (entry_unlinked sh v s i (fresh_ticket w r) (fresh_unlinked sh v s w r)) ∙ ap (entry_at sh v s i) (sym there)))
]

chains_pushed : (sh : Layout) (log : List Ticket) (w : ℕ) (r : RowValue) (v : ℕ) (s : Spot)
    → chain sh log v s (length log) ≡ chain sh (log ++ fresh_ticket w r ∷ []) v s (length (log ++ fresh_ticket w r ∷ []))
chains_pushed sh log w r v s =
    let log' = log ++ fresh_ticket w r ∷ [] in
    let len : length log' ≡ length log + 1 = length-append log (fresh_ticket w r ∷ []) in
    chain_same sh log log' v s (length log) (λ i h. entries_pushed sh log w r v s i)
    ∙ sym (chain_from sh log' v s (length log) (length log') (omega arith) (λ i ge lt.
    let past : slice_get log i ≡ None = slice_get_past log i ge in
    sym (entries_pushed sh log w r v s i) ∙ (ap (entry_at sh v s i) past ∙ entry_none sh v s i)))

fresh_zero : (sh : Layout) (log : List Ticket) (o i w : ℕ) (r : RowValue) → 0 ≡ ticket_word sh log o i (Some (fresh_ticket w r))
fresh_zero sh log o i w r =
    sym (ap (λ (b : Bool). cond (suc i == sh.sizes.ticket_words) 0 (cond b (full_word sh log o (fresh_ticket w r) i) 0)) (lt_false i 0 (λ h. omega arith))
    ∙ cond_zero (suc i == sh.sizes.ticket_words))

pub ticket_keeps : (sh : Layout) (ts : ℕ × ℕ) (log : List Ticket) (bs : List NodeStock) (words : List ℕ) (w : ℕ) (r : RowValue)
    → length words ≡ word_total sh.sizes
    → Spells sh ts log bs words
    → Spells sh (suc ts.0, ts.1) (log ++ fresh_ticket w r ∷ []) bs (set words (place sh.sizes (tail 0)) (suc ts.0))
ticket_keeps sh ts log bs words w r len spells =
    let log' = log ++ fresh_ticket w r ∷ [] in
    store_keeps sh ts (suc ts.0, ts.1) log log' bs bs words (tail 0) (suc ts.0) len (omega arith) spells
    (λ u real ne x. log_keeps sh ts (suc ts.0, ts.1) log log' bs u x
    (λ k e. later u ne k e)
    (λ o i e.
    let same : ticket_word sh log o i (slice_get log o) ≡ ticket_word sh log' o i (slice_get log o) =
    ticket_same sh log log' o i (slice_get log o) (λ q s f. chain_same sh log log' q.writer s o (λ j h. entries_pushed sh log w r q.writer s j)) in
    same ∙ elim (cases_eq o (length log)) [
      | inr far ↦ ap (ticket_word sh log' o i) (sym (get_push_other log (fresh_ticket w r) o far))
      | inl f ↦
          let here : slice_get log o ≡ None = slice_get_past log o (omega arith) in
          let there : slice_get log' o ≡ Some (fresh_ticket w r) = ap (slice_get log') f ∙ get_push_same log (fresh_ticket w r) in
          ap (ticket_word sh log' o i) here ∙ (fresh_zero sh log' o i w r ∙ ap (ticket_word sh log' o i) (sym there))
    ])
    (λ n j s e f inner. ap link_to_newest (chains_pushed sh log w r (j % sh.sizes.writers) (spot s.lane (j / sh.sizes.writers ∷ s.path)))))
    refl
  where
    later : (u : Slot) → (u ≡ tail 0 → ⊥) → (k : ℕ) → u ≡ tail k → tail_word ts k ≡ tail_word (suc ts.0, ts.1) k
    later u ne zero e = absurd (ne e)
    later u ne (suc k) e = refl

pub read_tail_keeps : (sh : Layout) (ts : ℕ × ℕ) (log : List Ticket) (bs : List NodeStock) (words : List ℕ) (v : ℕ)
    → length words ≡ word_total sh.sizes → Spells sh ts log bs words → Spells sh (ts.0, v) log bs (set words (place sh.sizes (tail 1)) v)
read_tail_keeps sh ts log bs words v len spells =
    store_keeps sh ts (ts.0, v) log log bs bs words (tail 1) v len (omega arith) spells
    (λ u real ne x. log_keeps sh ts (ts.0, v) log log bs u x (λ k e. later u real ne k e) (λ o i e. refl) (λ n j s e f inner. refl)) refl
  where
    later : (u : Slot) → IsReal sh.sizes u → (u ≡ tail 1 → ⊥) → (k : ℕ) → u ≡ tail k → tail_word ts k ≡ tail_word (ts.0, v) k
    later u real ne zero e = refl
    later u real ne (suc zero) e = absurd (ne e)
    later u real ne (suc (suc k)) e = let h : IsReal sh.sizes (tail (suc (suc k))) = subst (IsReal sh.sizes) e real in absurd (omega arith)
