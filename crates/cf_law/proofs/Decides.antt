-- The conditions are decided by their tests, and what a step names is one thing alone.
use Rattle.std.proofs.Common.{◌≡◌, ℕ, ◌+◌, ◌/◌, ◌<◌, ◌≤◌, zero, suc, List, [], ◌∷◌, length, Option, Some, None, slice_get, Bool, true, inl, inr, refl, arith, ap, sym, ◌∙◌, subst}
use Rattle.cf_shape.specs.Uses.{Use}
use Rattle.std.proofs.lemmas.Bool.{cases_eq}
use Rattle.cf_shape.specs.Places.{Slot, place}
use Rattle.cf_shape.specs.Places.Slot.{body}
use Rattle.cf_law.specs.Words.{Spot, spot, Layout, Ticket, NodeStock, node_at, has, IsNamedBy}
use Rattle.cf_shape.specs.Uses.Use.{plain, version}
use Rattle.cf_law.specs.Law.{Skips, IsWhole}
use Rattle.cf_law.specs.Passes.{Book, Flight, Pass}
use Rattle.cf_law.specs.Steps.{Holds, HoldsInFlight, IsChild, Knows, free_node, ticket_of}
use Rattle.cf_law.specs.Lawful.{Base, BaseLaw, PassLaw, Stands}
use Rattle.cf_law.specs.Decides.{skips, skips_all, linked_if, linked_all}
use Rattle.cf_shape.proofs.Slots.{same_slot}
use Rattle.cf_law.proofs.Nodes.{row_of}
use Rattle.cf_law.proofs.Chains.{both, both_intro}
use Rattle.cf_law.proofs.Keeps.{aloft}
use Rattle.cf_law.proofs.Loads.{reached, child_lane}

linked_if_true : (o : Option (List ℕ)) (b : Bool) → linked_if o b ≡ true → (q : List ℕ) → o ≡ Some q → b ≡ true
linked_if_true None b h q e = absurd (cc e)
linked_if_true (Some x) b h q e = h

named_unique : (m : ℕ) (bs : List NodeStock) (l k : ℕ) (p q : List ℕ) (t : Slot) → IsNamedBy m bs l p t → IsNamedBy m bs k q t → spot l p ≡ spot k q
named_unique m bs l k [] q t h g = absurd h
named_unique m bs l k (d ∷ p) [] t h g = absurd g
named_unique m bs l k (d ∷ []) (e ∷ []) t h g = cc (h, g)
named_unique m bs l k (d ∷ []) (e ∷ (f ∷ q)) t h g = absurd (cc (h, g.3))
named_unique m bs l k (d ∷ (f ∷ p)) (e ∷ []) t h g = absurd (cc (h.3, g))
named_unique m bs l k (d ∷ (f ∷ p)) (e ∷ (c ∷ q)) t h g =
    let bodies : body h.0 (suc d) ≡ body g.0 (suc e) = sym h.3 ∙ g.3 in
    let node : h.0 ≡ g.0 = cc bodies in
    let nibble : d ≡ e = cc bodies in
    let spots : spot l (f ∷ p) ≡ spot k (c ∷ q) = cc (h.1, ap (node_at m bs) node, g.1) in
    let lanes : l ≡ k = ap (λ (s : Spot). s.lane) spots in
    let paths : f ∷ p ≡ c ∷ q = ap (λ (s : Spot). s.path) spots in
    cc (lanes, nibble, paths)

pub skips_true : (sh : Layout) (t : Ticket) (u : Use) → skips sh t u ≡ true → Skips sh t u
skips_true sh t (plain i) h = absurd (cc h)
skips_true sh t (version l j) h = go (sh.path t.row l) h
  where
    go : (o : Option (List ℕ)) → Rattle.cf_law.specs.Decides.is_none o ≡ true → o ≡ None
    go None e = refl
    go (Some q) e = absurd (cc e)

pub skips_intro : (sh : Layout) (t : Ticket) (u : Use) → Skips sh t u → skips sh t u ≡ true
skips_intro sh t (plain i) h = absurd h
skips_intro sh t (version l j) h = ap (λ (o : Option (List ℕ)). Rattle.cf_law.specs.Decides.is_none o) h

pub skips_all_true : (sh : Layout) (t : Ticket) (k n : ℕ) → skips_all sh t k n ≡ true → (i : ℕ) → k ≤ i → i < k + n → Skips sh t (sh.use_of i)
unfolding skips_all
skips_all_true sh t k zero h i ge lt = absurd (omega arith)
skips_all_true sh t k (suc n) h i ge lt = let b = both (skips sh t (sh.use_of k)) _ h in elim (cases_eq i k) [
  | inl e ↦ subst (λ (m : ℕ). Skips sh t (sh.use_of m)) (sym e) (skips_true sh t (sh.use_of k) b.0)
  | inr ne ↦ skips_all_true sh t (suc k) n b.1 i (omega arith) (omega arith)
]

pub skips_all_intro : (sh : Layout) (t : Ticket) (k n : ℕ) → ((i : ℕ) → k ≤ i → i < k + n → Skips sh t (sh.use_of i)) → skips_all sh t k n ≡ true
unfolding skips_all
skips_all_intro sh t k zero h = refl
skips_all_intro sh t k (suc n) h =
    both_intro (skips sh t (sh.use_of k)) _ (skips_intro sh t (sh.use_of k) (h k (omega arith) (omega arith)))
    (skips_all_intro sh t (suc k) n (λ i ge lt. h i (omega arith) (omega arith)))

-- the ticket is filled: the words from `filled` up to the done word are passed over. n is how many these are
pub whole_is : (sh : Layout) (t : Ticket) (n : ℕ) → suc (t.filled + n) ≡ sh.sizes.ticket_words → skips_all sh t t.filled n ≡ true → IsWhole sh t
whole_is sh t n e h k ge lt = skips_all_true sh t t.filled n h k ge (omega arith)

pub whole_only : (sh : Layout) (t : Ticket) (n : ℕ) → suc (t.filled + n) ≡ sh.sizes.ticket_words → IsWhole sh t → skips_all sh t t.filled n ≡ true
whole_only sh t n e h = skips_all_intro sh t t.filled n (λ i ge lt. h i ge (omega arith))

below : (sh : Layout) (t : Ticket) (n : ℕ) → linked_all sh t n ≡ true → (l : ℕ) (q : List ℕ) → l < n → sh.path t.row l ≡ Some q → has t.linked l ≡ true
unfolding linked_all
below sh t zero h l q lt e = absurd (omega arith)
below sh t (suc n) h l q lt e = let b = both (linked_if (sh.path t.row n) (has t.linked n)) _ h in elim (cases_eq l n) [
  | inl f ↦ subst (λ (m : ℕ). has t.linked m ≡ true) (sym f) (linked_if_true (sh.path t.row n) (has t.linked n) b.0 q (ap (sh.path t.row) (sym f) ∙ e))
  | inr ne ↦ below sh t n b.1 l q (omega arith) e
]

-- What a place, a node or an offset names, is one.
pub child_unique : (sh : Layout) (m : Base) (p : Pass) (s r : Spot) (t u : Slot) → PassLaw sh m p → IsChild sh p s t → IsChild sh p r u
    → place sh.sizes t ≡ place sh.sizes u → (s ≡ r) × (t ≡ u)
child_unique sh m p s r t u knows a b same =
    let slot : t ≡ u = same_slot sh.sizes t u a.real b.real same in
    let x = reached sh.sizes.nodes m.stocks p s.lane s.path t knows.known a.reaches in
    let y = subst (IsNamedBy sh.sizes.nodes m.stocks r.lane r.path) (sym slot) (reached sh.sizes.nodes m.stocks p r.lane r.path u knows.known b.reaches) in
    (named_unique sh.sizes.nodes m.stocks s.lane r.lane s.path r.path t x y, slot)

pub known_unique : (sh : Layout) (m : Base) (p : Pass) (s r : Spot) (n : ℕ) → PassLaw sh m p → Knows p s n → Knows p r n → s ≡ r
known_unique sh m p s r n knows a b = cc (knows.known a.0 (s, n) a.1, knows.known b.0 (r, n) b.1)

pub flight_unique : (sh : Layout) (m : Base) (passes : List Pass) (k : ℕ) (p : Pass) (i j : ℕ) (b c : Book) (f g : Flight) → Stands sh m passes
    → slice_get passes k ≡ Some p
    → HoldsInFlight p i b f → HoldsInFlight p j c g → f.offset ≡ g.offset → i ≡ j
flight_unique sh m passes k p i j b c f g S at x y same =
    let a = aloft sh m p i b f S.law (S.knows k p at) x in
    let d = aloft sh m p j c g S.law (S.knows k p at) y in
    let tickets : ticket_of b.writer f ≡ ticket_of c.writer g = cc (a.at, ap (slice_get m.log) same, d.at) in
    let w : b.writer ≡ c.writer = ap (λ (t : Ticket). t.writer) tickets in
    (S.once k k i j c.writer (record { pass = p; book = b; at = at; held = x.0; writer = w })
    (record { pass = p; book = c; at = at; held = y.0; writer = refl })).1

pub free_unique : (sh : Layout) (m : Base) (passes : List Pass) (k : ℕ) (p : Pass) (i j : ℕ) (b c : Book) → Stands sh m passes → slice_get passes k ≡ Some p
    → Holds p i b → Holds p j c → length b.used < sh.sizes.nodes → length c.used < sh.sizes.nodes → free_node sh b ≡ free_node sh c → i ≡ j
free_unique sh m passes k p i j b c S at x y lb lc same =
    let w : b.writer ≡ c.writer = sym (row_of sh.sizes.nodes b.writer (length b.used) lb)
    ∙ (ap (λ (n : ℕ). n / sh.sizes.nodes) same ∙ row_of sh.sizes.nodes c.writer (length c.used) lc) in
    (S.once k k i j c.writer (record { pass = p; book = b; at = at; held = x; writer = w }) (record { pass = p; book = c; at = at; held = y; writer = refl })).1

-- Without lanes no child word is reached and no node is known, and so there is no label, link or head, and no load of a child, a head or a cell.
pub no_child : (sh : Layout) (m : Base) (p : Pass) (s : Spot) (t : Slot) → BaseLaw sh m → PassLaw sh m p → sh.sizes.lanes ≡ 0 → IsChild sh p s t → ⊥
no_child sh m p s t law knows none child = let h = child_lane sh m p s.lane s.path t law knows child.real child.reaches in omega (arith, h, none)
