-- What a chain has.
use Rattle.std.proofs.Common.{◌≡◌, ℕ, ◌<◌, ◌≤◌, ◌⊎◌, ◌==◌, zero, suc, List, [], ◌∷◌, ◌++◌, Option, Some, None, slice_get, cond, Bool, true, false, inl, inr, refl, arith, ap, ap₂, sym, ◌∙◌, subst}
use Rattle.cf_row.proofs.Truths.{eq_from, eq_true}
use Rattle.cf_row.specs.Row.{RowValue}
use Rattle.std.proofs.lemmas.Bool.{cases_Bool, cases_eq, cases_lt}
use Rattle.cf_law.specs.Words.{Spot, Layout, Ticket, has, same_path, links, entry_at, chain, link_to_newest, fresh_ticket}

-- a conjunction of two tests
pub both : (a b : Bool) → cond a b false ≡ true → (a ≡ true) × (b ≡ true)
both true b h = (refl, h)
both false b h = absurd (cc)

pub same_path_true : (o : Option (List ℕ)) (p : List ℕ) → same_path o p ≡ true → o ≡ Some p
unfolding same_path
same_path_true None p h = absurd (cc)
same_path_true (Some []) [] h = refl
same_path_true (Some []) (y ∷ ys) h = absurd (cc)
same_path_true (Some (x ∷ xs)) [] h = absurd (cc)
same_path_true (Some (x ∷ xs)) (y ∷ ys) h =
    let b = both (x == y) (same_path (Some xs) ys) h in
    let e : x ≡ y = eq_from x y b.0 in
    let r = same_path_true (Some xs) ys b.1 in
    cc

pub same_path_intro : (p : List ℕ) → same_path (Some p) p ≡ true
unfolding same_path
same_path_intro [] = refl
same_path_intro (x ∷ xs) = ap (λ (b : Bool). cond b (same_path (Some xs) xs) false) (eq_true x x refl) ∙ same_path_intro xs

pub both_intro : (a b : Bool) → a ≡ true → b ≡ true → cond a b false ≡ true
both_intro true b h k = k
both_intro false b h k = absurd (cc)

-- two booleans that imply each other
pub same_bool : (a b : Bool) → (a ≡ true → b ≡ true) → (b ≡ true → a ≡ true) → a ≡ b
same_bool true true f g = refl
same_bool false false f g = refl
same_bool true false f g = sym (f refl)
same_bool false true f g = g refl

pub has_more : (x l : ℕ) (xs : List ℕ) → has (x ∷ xs) l ≡ true → (x ≡ l) ⊎ (has xs l ≡ true)
unfolding has
has_more x l xs h = elim (cases_Bool (x == l)) [
  | inl e ↦ inl (eq_from x l e)
  | inr e ↦ inr (sym (ap (λ (b : Bool). cond b true (has xs l)) e) ∙ h)
]

pub has_first : (l : ℕ) (xs : List ℕ) → has (l ∷ xs) l ≡ true
unfolding has
has_first l xs = ap (λ (b : Bool). cond b true (has xs l)) (eq_true l l refl)

pub has_rest : (x l : ℕ) (xs : List ℕ) → has xs l ≡ true → has (x ∷ xs) l ≡ true
unfolding has
has_rest x l xs h = elim (cases_Bool (x == l)) [
  | inl e ↦ ap (λ (b : Bool). cond b true (has xs l)) e
  | inr e ↦ ap (λ (b : Bool). cond b true (has xs l)) e ∙ h
]

pub has_nothing : (l : ℕ) → has [] l ≡ true → ⊥
unfolding has
has_nothing l h = cc

pub links_true : (sh : Layout) (w : ℕ) (s : Spot) (t : Ticket) → links sh w s t ≡ true
    → (t.writer ≡ w) × (has t.linked s.lane ≡ true) × (sh.path t.row s.lane ≡ Some s.path)
unfolding links
links_true sh w s t h =
    let a = both (t.writer == w) _ h in
    let b = both (has t.linked s.lane) _ a.1 in
    (eq_from t.writer w a.0, b.0, same_path_true (sh.path t.row s.lane) s.path b.1)

pub links_intro : (sh : Layout) (w : ℕ) (s : Spot) (t : Ticket) → t.writer ≡ w → has t.linked s.lane ≡ true → sh.path t.row s.lane ≡ Some s.path
    → links sh w s t ≡ true
unfolding links
links_intro sh w s t e h p =
    both_intro (t.writer == w) _ (eq_true t.writer w e)
    (both_intro (has t.linked s.lane) _ h (ap (λ (q : Option (List ℕ)). same_path q s.path) p ∙ same_path_intro s.path))

pub links_of : (sh : Layout) (w : ℕ) (s : Spot) (t u : Ticket) → u.writer ≡ t.writer → u.row ≡ t.row → u.linked ≡ t.linked → links sh w s t ≡ links sh w s u
links_of sh w s t u ew er el = same_bool _ _
    (λ h. let x = links_true sh w s t h in
    links_intro sh w s u (ew ∙ x.0) (ap (λ (q : List ℕ). has q s.lane) el ∙ x.1) (ap (λ (r : RowValue). sh.path r s.lane) er ∙ x.2))
    (λ h. let x = links_true sh w s u h in
    links_intro sh w s t (sym ew ∙ x.0) (ap (λ (q : List ℕ). has q s.lane) (sym el) ∙ x.1) (ap (λ (r : RowValue). sh.path r s.lane) (sym er) ∙ x.2))

pub entry_linked : (sh : Layout) (w : ℕ) (s : Spot) (o : ℕ) (t : Ticket) → links sh w s t ≡ true → entry_at sh w s o (Some t) ≡ (o, t.row) ∷ []
unfolding entry_at
entry_linked sh w s o t h = ap (λ (b : Bool). cond b ((o, t.row) ∷ []) []) h

pub entry_unlinked : (sh : Layout) (w : ℕ) (s : Spot) (o : ℕ) (t : Ticket) → links sh w s t ≡ false → entry_at sh w s o (Some t) ≡ []
unfolding entry_at
entry_unlinked sh w s o t h = ap (λ (b : Bool). cond b ((o, t.row) ∷ []) []) h

pub entry_same : (sh : Layout) (w : ℕ) (s : Spot) (o : ℕ) (t u : Ticket) → links sh w s t ≡ links sh w s u → t.row ≡ u.row
    → entry_at sh w s o (Some t) ≡ entry_at sh w s o (Some u)
unfolding entry_at
entry_same sh w s o t u h e = ap₂ (λ (b : Bool) (r : RowValue). cond b ((o, r) ∷ []) []) h e

pub entry_none : (sh : Layout) (w : ℕ) (s : Spot) (o : ℕ) → entry_at sh w s o None ≡ []
unfolding entry_at
entry_none sh w s o = refl

-- where the two logs have the same entries below o, the chains before o are the same
pub chain_same : (sh : Layout) (log log' : List Ticket) (w : ℕ) (s : Spot) (o : ℕ)
    → ((i : ℕ) → i < o → entry_at sh w s i (slice_get log i) ≡ entry_at sh w s i (slice_get log' i))
    → chain sh log w s o ≡ chain sh log' w s o
unfolding chain
chain_same sh log log' w s zero h = refl
chain_same sh log log' w s (suc o) h =
    ap₂ (λ (e c : List (ℕ × RowValue)). e ++ c) (h o (omega arith)) (chain_same sh log log' w s o (λ i l. h i (omega arith)))

pub chain_none : (sh : Layout) (log : List Ticket) (w : ℕ) (s : Spot) (o : ℕ)
    → ((i : ℕ) → i < o → entry_at sh w s i (slice_get log i) ≡ []) → chain sh log w s o ≡ []
unfolding chain
chain_none sh log w s zero h = refl
chain_none sh log w s (suc o) h =
    ap (λ (e : List (ℕ × RowValue)). e ++ chain sh log w s o) (h o (omega arith)) ∙ chain_none sh log w s o (λ i l. h i (omega arith))

-- the chain goes on from o where there is nothing between
pub chain_from : (sh : Layout) (log : List Ticket) (w : ℕ) (s : Spot) (o n : ℕ) → o ≤ n
    → ((i : ℕ) → o ≤ i → i < n → entry_at sh w s i (slice_get log i) ≡ []) → chain sh log w s n ≡ chain sh log w s o
unfolding chain
chain_from sh log w s o zero le h = ap (chain sh log w s) (let e : zero ≡ o = omega arith in e)
chain_from sh log w s o (suc n) le h = elim (cases_eq o (suc n)) [
  | inl e ↦ ap (chain sh log w s) (sym e)
  | inr ne ↦ ap (λ (e : List (ℕ × RowValue)). e ++ chain sh log w s n) (h n (omega arith) (omega arith))
      ∙ chain_from sh log w s o n (omega arith) (λ i l k. h i l (omega arith))
]

chain_suc_top : (sh : Layout) (log : List Ticket) (w : ℕ) (s : Spot) (o : ℕ) (r : RowValue) → entry_at sh w s o (slice_get log o) ≡ (o, r) ∷ []
    → link_to_newest (chain sh log w s (suc o)) ≡ suc o
unfolding chain
chain_suc_top sh log w s o r e = ap (λ (c : List (ℕ × RowValue)). link_to_newest (c ++ chain sh log w s o)) e

-- the newest entry is on top
pub chain_top : (sh : Layout) (log : List Ticket) (w : ℕ) (s : Spot) (o n : ℕ) (r : RowValue) → o < n
    → entry_at sh w s o (slice_get log o) ≡ (o, r) ∷ []
    → ((i : ℕ) → o < i → i < n → entry_at sh w s i (slice_get log i) ≡ []) → link_to_newest (chain sh log w s n) ≡ suc o
chain_top sh log w s o n r lt here h =
    ap link_to_newest (chain_from sh log w s (suc o) n lt (λ i l k. h i l k)) ∙ chain_suc_top sh log w s o r here

pub fresh_unlinked : (sh : Layout) (v : ℕ) (s : Spot) (w : ℕ) (r : RowValue) → links sh v s (fresh_ticket w r) ≡ false
fresh_unlinked sh v s w r = elim (cases_Bool (links sh v s (fresh_ticket w r))) [
  | inr f ↦ f
  | inl h ↦ absurd (has_nothing s.lane (links_true sh v s (fresh_ticket w r) h).1)
]

-- what a chain says of the log: its top is the newest entry that is linked there
top_after : (sh : Layout) (w : ℕ) (s : Spot) (n i : ℕ) (o : Option Ticket) (c : List (ℕ × RowValue)) → i < suc n → (i < n → i < link_to_newest c)
    → ((t : Ticket) → i ≡ n → o ≡ Some t → links sh w s t ≡ true) → (i ≡ n → (t : Ticket) × (o ≡ Some t))
    → i < link_to_newest (entry_at sh w s n o ++ c)
unfolding entry_at
top_after sh w s n i None c lt below here there = elim (cases_lt i n) [
  | inl h ↦ below h
  | inr h ↦ let x = there (omega arith) in absurd (cc (x.1))
]
top_after sh w s n i (Some t) c lt below here there = elim (cases_Bool (links sh w s t)) [
  | inl h ↦ subst (λ (b : Bool). i < link_to_newest (cond b ((n, t.row) ∷ []) [] ++ c)) (sym h) lt
  | inr h ↦ subst (λ (b : Bool). i < link_to_newest (cond b ((n, t.row) ∷ []) [] ++ c)) (sym h) (elim (cases_lt i n) [
    | inl k ↦ below k
    | inr k ↦ absurd (cc (here t (omega arith) refl, h))
  ])
]

pub chain_has : (sh : Layout) (log : List Ticket) (w : ℕ) (s : Spot) (n i : ℕ) (t : Ticket) → slice_get log i ≡ Some t → links sh w s t ≡ true → i < n
    → i < link_to_newest (chain sh log w s n)
unfolding chain
chain_has sh log w s zero i t at h lt = absurd (omega arith)
chain_has sh log w s (suc n) i t at h lt =
    top_after sh w s n i (slice_get log n) (chain sh log w s n) lt (λ k. chain_has sh log w s n i t at h k)
    (λ u e f. let same : t ≡ u = cc (at, ap (slice_get log) e, f) in ap (links sh w s) (sym same) ∙ h)
    (λ e. (t, ap (slice_get log) (sym e) ∙ at))

-- and every top is such an entry
abbrev pub IsEntry : Layout → List Ticket → ℕ → Spot → ℕ → ℕ → Type 0
IsEntry sh log w s n zero = Unit {0}
IsEntry sh log w s n (suc o) = (o < n) × (t : Ticket) × (slice_get log o ≡ Some t) × (links sh w s t ≡ true)

entry_weaker : (sh : Layout) (log : List Ticket) (w : ℕ) (s : Spot) (n v : ℕ) → IsEntry sh log w s n v → IsEntry sh log w s (suc n) v
entry_weaker sh log w s n zero h = h
entry_weaker sh log w s n (suc o) h = let lt = h.0 in (omega arith, h.1, h.2, h.3)

top_entry : (sh : Layout) (log : List Ticket) (w : ℕ) (s : Spot) (n : ℕ) (o : Option Ticket) (c : List (ℕ × RowValue)) → slice_get log n ≡ o
    → IsEntry sh log w s n (link_to_newest c)
    → IsEntry sh log w s (suc n) (link_to_newest (entry_at sh w s n o ++ c))
unfolding entry_at
top_entry sh log w s n None c e h = entry_weaker sh log w s n (link_to_newest c) h
top_entry sh log w s n (Some t) c e h = elim (cases_Bool (links sh w s t)) [
  | inl l ↦ subst (λ (b : Bool). IsEntry sh log w s (suc n) (link_to_newest (cond b ((n, t.row) ∷ []) [] ++ c))) (sym l) (omega arith, t, e, l)
  | inr l ↦ subst (λ (b : Bool). IsEntry sh log w s (suc n) (link_to_newest (cond b ((n, t.row) ∷ []) [] ++ c))) (sym l)
      (entry_weaker sh log w s n (link_to_newest c) h)
]

pub chain_is : (sh : Layout) (log : List Ticket) (w : ℕ) (s : Spot) (n : ℕ) → IsEntry sh log w s n (link_to_newest (chain sh log w s n))
unfolding chain
chain_is sh log w s zero = tt
chain_is sh log w s (suc n) = top_entry sh log w s n (slice_get log n) (chain sh log w s n) refl (chain_is sh log w s n)
