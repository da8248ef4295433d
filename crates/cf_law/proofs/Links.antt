-- A label and a link keep what the words mean.
use Rattle.std.proofs.Common.{◌≡◌, ℕ, ◌/◌, ◌%◌, ◌<◌, ◌≤◌, ◌⊎◌, zero, suc, List, [], ◌∷◌, length, get_or, set, Option, Some, None, slice_get, Bool, true, false, inl, inr, refl, arith, ap, ap₂, sym, ◌∙◌, subst}
use Rattle.std.proofs.lemmas.Bool.{cases_eq, cases_lt, cases_Bool}
use Rattle.std.proofs.lemmas.Nat.{mul-add-lt}
use Rattle.cf_row.proofs.Truths.{lt_true}
use Rattle.cf_shape.specs.Places.{Sizes, Slot, place, IsReal, word_total}
use Rattle.cf_shape.specs.Places.Slot.{tail, cell, root, body}
use Rattle.cf_law.proofs.Forms.{stocks_with_label, stocks_with_node, stocks_with_mark, CanLink}
use Rattle.cf_law.specs.Words.{Spot, spot, Layout, Ticket, NodeStock, stock_of, node_at, spare_label, free_of, IsChildFor, IsNamedBy, NodeWord, BodyWord, is_inner, IsWordOf, Spells, links, entry_at, chain, link_to_newest}
use Rattle.cf_law.specs.Law.{NodesLaw, LeavesLaw}
use Rattle.cf_law.proofs.Nodes.{free_is_free, label_node_at, label_spare_here, label_spare_other, spare_free, relabel_length, relabel_used, over_used, over_length, over_node_at, over_spare, use_length, use_room, use_node_at_here, use_node_at_other, use_spare}
use Rattle.cf_law.proofs.Stores.{store_keeps}
use Rattle.cf_law.proofs.Chains.{links_true, entry_none, entry_unlinked, chain_none}

-- used nodes stay
abbrev pub Grows : ℕ → List NodeStock → List NodeStock → Type 0
Grows m bs bs' = (n : ℕ) (s : Spot) → node_at m bs n ≡ Some s → node_at m bs' n ≡ Some s

pub named_grows : (m : ℕ) (bs bs' : List NodeStock) → Grows m bs bs' → (l : ℕ) (p : List ℕ) (t : Slot) → IsNamedBy m bs l p t → IsNamedBy m bs' l p t
named_grows m bs bs' grows l [] t h = h
named_grows m bs bs' grows l (d ∷ []) t h = h
named_grows m bs bs' grows l (d ∷ (e ∷ p)) t h = (h.0, grows h.0 _ h.1, h.2, h.3)

names_same : (m : ℕ) (bs bs' : List NodeStock) (s : Spot) (v : ℕ) → ((n : ℕ) → node_at m bs' n ≡ node_at m bs n) → IsChildFor m bs s v → IsChildFor m bs' s v
names_same m bs bs' s v same (inl h) = inl (h.0, λ n e. h.1 n (sym (same n) ∙ e))
names_same m bs bs' s v same (inr h) = inr (h.0, h.1, same h.0 ∙ h.2)

-- the free node of a writer has a place
free_real : (g : Sizes) (bs : List NodeStock) (w : ℕ) → length bs ≡ g.writers → w < length bs → length (stock_of bs w).used < g.nodes
    → IsReal g (body (free_of g.nodes bs w) 0)
free_real g bs w e h room = (omega (arith, mul-add-lt w g.nodes (length (stock_of bs w).used) g.writers (omega arith) room), omega arith)

-- The link of the free node of w as the spot s.
pub link_grows : (m : ℕ) (bs : List NodeStock) (w : ℕ) (s : Spot) → w < length bs → length (stock_of bs w).used < m → Grows m bs (stocks_with_node w s bs)
link_grows m bs w s h room n r e = use_node_at_other m bs w s n h (λ f. absurd (cc (free_is_free m bs w room, ap (node_at m bs) f, e))) ∙ e

-- a used node after the link is the new one or was used
link_from : (m : ℕ) (bs : List NodeStock) (w : ℕ) (s : Spot) (n : ℕ) (r : Spot) → w < length bs → length (stock_of bs w).used < m
    → node_at m (stocks_with_node w s bs) n ≡ Some r → ((n ≡ free_of m bs w) × (r ≡ s)) ⊎ (node_at m bs n ≡ Some r)
link_from m bs w s n r h room e = elim (cases_eq n (free_of m bs w)) [
  | inl f ↦ inl (f, cc (use_node_at_here m bs w s h room, ap (node_at m (stocks_with_node w s bs)) f, e))
  | inr ne ↦ inr (sym (use_node_at_other m bs w s n h ne) ∙ e)
]

link_names : (m : ℕ) (bs : List NodeStock) (w : ℕ) (s r : Spot) (v : ℕ) → w < length bs → length (stock_of bs w).used < m
    → (r ≡ s → ⊥) → IsChildFor m bs r v → IsChildFor m (stocks_with_node w s bs) r v
link_names m bs w s r v h room ne (inl k) = inl (k.0, λ n e. elim (link_from m bs w s n r h room e) [ inl f ↦ ne f.1 | inr f ↦ k.1 n f ])
link_names m bs w s r v h room ne (inr k) = inr (k.0, k.1, link_grows m bs w s h room k.0 r k.2)

named_long : (m : ℕ) (bs : List NodeStock) (l : ℕ) (p : List ℕ) (t : Slot) → IsNamedBy m bs l p t → 0 < length p
named_long m bs l [] t h = absurd h
named_long m bs l (d ∷ []) t h = omega arith
named_long m bs l (d ∷ (e ∷ p)) t h = omega arith

-- a slot that names a child of a node is a word of that node
named_child : (m : ℕ) (bs : List NodeStock) (n i l : ℕ) (p : List ℕ) (t : Slot)
    → ((k : ℕ) (s : Spot) → node_at m bs n ≡ Some s → node_at m bs k ≡ Some s → n ≡ k)
    → node_at m bs n ≡ Some (spot l p) → 0 < length p → IsNamedBy m bs l (i ∷ p) t → body n (suc i) ≡ t
named_child m bs n i l [] t unique at long h = absurd (omega arith)
named_child m bs n i l (e ∷ p) t unique at long h = ap (λ (k : ℕ). body k (suc i)) (unique h.0 _ at h.1) ∙ sym h.3

pub is_inner_true : (sh : Layout) (s : Spot) → suc (length s.path) < sh.levels s.lane → is_inner sh s ≡ true
is_inner_true sh s h = lt_true _ _ h

node_keeps : (sh : Layout) (log : List Ticket) (bs bs' : List NodeStock) (s : Spot) (j v : ℕ) (b : Bool)
    → (IsChildFor sh.sizes.nodes bs (spot s.lane (j ∷ s.path)) v → IsChildFor sh.sizes.nodes bs' (spot s.lane (j ∷ s.path)) v)
    → NodeWord sh log bs s j v b → NodeWord sh log bs' s j v b
node_keeps sh log bs bs' s j v true names (inl h) = inl (h.0, names h.1)
node_keeps sh log bs bs' s j v true names (inr h) = inr h
node_keeps sh log bs bs' s j v false names h = h

body_keeps : (sh : Layout) (log : List Ticket) (bs bs' : List NodeStock) (n j v : ℕ) (o : Option Spot)
    → Grows sh.sizes.nodes bs bs'
    → (j ≡ 0 → spare_label sh.sizes.nodes bs' n ≡ spare_label sh.sizes.nodes bs n)
    → ((s : Spot) (i : ℕ) → o ≡ Some s → j ≡ suc i → IsChildFor sh.sizes.nodes bs (spot s.lane (i ∷ s.path)) v
    → IsChildFor sh.sizes.nodes bs' (spot s.lane (i ∷ s.path)) v)
    → BodyWord sh log bs n j v o → BodyWord sh log bs' n j v o
body_keeps sh log bs bs' n zero v None grows spare names h = h ∙ sym (spare refl)
body_keeps sh log bs bs' n (suc j) v None grows spare names h = h
body_keeps sh log bs bs' n zero v (Some s) grows spare names h = (h.0, named_grows sh.sizes.nodes bs bs' grows s.lane s.path h.0 h.1, h.2, h.3)
body_keeps sh log bs bs' n (suc j) v (Some s) grows spare names h = node_keeps sh log bs bs' s j v (is_inner sh s) (names s j refl refl) h

-- The label of the free node.
label_others : (sh : Layout) (ts : ℕ × ℕ) (log : List Ticket) (bs : List NodeStock) (w v : ℕ) → w < length bs
    → (t : Slot) → (t ≡ body (free_of sh.sizes.nodes bs w) 0 → ⊥) → (x : ℕ) → IsWordOf sh ts log bs t x → IsWordOf sh ts log (stocks_with_label w v bs) t x
label_others sh ts log bs w v h (tail k) ne x r = r
label_others sh ts log bs w v h (cell o i) ne x r = r
label_others sh ts log bs w v h (root l d) ne x r = names_same sh.sizes.nodes bs (stocks_with_label w v bs) _ x (λ n. label_node_at sh.sizes.nodes bs w v n h) r
label_others sh ts log bs w v h (body n j) ne x r =
    let same = λ (k : ℕ). label_node_at sh.sizes.nodes bs w v k h in
    subst (λ (o : Option Spot). BodyWord sh log (stocks_with_label w v bs) n j x o) (sym (same n))
    (body_keeps sh log bs (stocks_with_label w v bs) n j x (node_at sh.sizes.nodes bs n) (λ k s e. same k ∙ e)
    (λ j0. label_spare_other sh.sizes.nodes bs w v n h (λ e. ne (ap₂ body e j0)))
    (λ s i e f. names_same sh.sizes.nodes bs (stocks_with_label w v bs) _ x same) r)

pub label_keeps : (sh : Layout) (ts : ℕ × ℕ) (log : List Ticket) (bs : List NodeStock) (words : List ℕ) (w v : ℕ)
    → NodesLaw sh bs → w < length bs → length (stock_of bs w).used < sh.sizes.nodes → length words ≡ word_total sh.sizes
    → Spells sh ts log bs words
    → Spells sh ts log (stocks_with_label w v bs) (set words (place sh.sizes (body (free_of sh.sizes.nodes bs w) 0)) v)
label_keeps sh ts log bs words w v law h room len spells =
    let m = sh.sizes.nodes in
    let free : node_at m (stocks_with_label w v bs) (free_of m bs w) ≡ None = label_node_at m bs w v _ h ∙ free_is_free m bs w room in
    store_keeps sh ts ts log log bs (stocks_with_label w v bs) words (body (free_of m bs w) 0) v len (free_real sh.sizes bs w law.writers h room) spells
    (λ t r ne x. label_others sh ts log bs w v h t ne x)
    (subst (λ (o : Option Spot). BodyWord sh log (stocks_with_label w v bs) (free_of m bs w) 0 v o) (sym free) (sym (label_spare_here m bs w v h room)))

-- The link of the free node.
-- no ticket is linked below a spot that no node has
no_heads : (sh : Layout) (log : List Ticket) (bs : List NodeStock) (w j : ℕ) (s : Spot) → LeavesLaw sh log bs
    → ((n : ℕ) → node_at sh.sizes.nodes bs n ≡ Some s → ⊥) → chain sh log w (spot s.lane (j ∷ s.path)) (length log) ≡ []
no_heads sh log bs w j s leaves none = chain_none sh log w (spot s.lane (j ∷ s.path)) (length log) (λ i l. go i (slice_get log i) refl)
  where
    go : (i : ℕ) (o : Option Ticket) → slice_get log i ≡ o → entry_at sh w (spot s.lane (j ∷ s.path)) i o ≡ []
    go i None e = entry_none sh w (spot s.lane (j ∷ s.path)) i
    go i (Some t) e = elim (cases_Bool (links sh w (spot s.lane (j ∷ s.path)) t)) [
      | inr f ↦ entry_unlinked sh w (spot s.lane (j ∷ s.path)) i t f
      | inl l ↦
          let x = links_true sh w (spot s.lane (j ∷ s.path)) t l in
          let y = leaves i t s.lane e x.1 in
          let p : y.1 ≡ s.path = cc (x.2, y.3) in
          absurd (none y.2 (y.4 ∙ ap (λ (q : List ℕ). Some (spot s.lane q)) p))
    ]

-- no node stands below it either
no_child : (sh : Layout) (bs : List NodeStock) (s : Spot) (i : ℕ) → NodesLaw sh bs → 0 < length s.path
    → ((n : ℕ) → node_at sh.sizes.nodes bs n ≡ Some s → ⊥) → (n : ℕ) → node_at sh.sizes.nodes bs n ≡ Some (spot s.lane (i ∷ s.path)) → ⊥
no_child sh bs s i law long none n e = go s.path refl
  where
    go : (p : List ℕ) → s.path ≡ p → ⊥
    go [] f = omega (arith, ap (length {A = ℕ}) f)
    go (d ∷ p) f =
        let up = law.parent n s.lane i d p (e ∙ ap (λ (q : List ℕ). Some (spot s.lane (i ∷ q))) f) in
        none up.0 (up.1 ∙ ap (λ (q : List ℕ). Some (spot s.lane q)) (sym f))

fresh_word : (sh : Layout) (log : List Ticket) (bs : List NodeStock) (s : Spot) (i : ℕ) (b : Bool)
    → ((n : ℕ) → node_at sh.sizes.nodes bs n ≡ Some (spot s.lane (i ∷ s.path)) → ⊥)
    → ((w d : ℕ) → chain sh log w (spot s.lane (d ∷ s.path)) (length log) ≡ [])
    → NodeWord sh log bs s i 0 b
fresh_word sh log bs s i true none empty = elim (cases_lt i 16) [ inl h ↦ inl (h, inl (refl, none)) | inr h ↦ inr (h, refl) ]
fresh_word sh log bs s i false none empty = sym (ap link_to_newest (empty (i % sh.sizes.writers) (i / sh.sizes.writers)))

-- the words of the new node
fresh_body : (sh : Layout) (log : List Ticket) (bs : List NodeStock) (w : ℕ) (s : Spot) (t : Slot) (j x : ℕ) → NodesLaw sh bs → LeavesLaw sh log bs
    → CanLink sh bs w s t
    → ((n : ℕ) → node_at sh.sizes.nodes bs n ≡ Some s → ⊥)
    → BodyWord sh log bs (free_of sh.sizes.nodes bs w) j x None → BodyWord sh log (stocks_with_node w s bs) (free_of sh.sizes.nodes bs w) j x (Some s)
fresh_body sh log bs w s t zero x law leaves can none r = (
  t,
  named_grows sh.sizes.nodes bs (stocks_with_node w s bs) (link_grows sh.sizes.nodes bs w s can.writer can.room) s.lane s.path t can.named,
  can.real,
  r
      ∙ (spare_free sh.sizes.nodes bs w can.room ∙ can.label),
)
fresh_body sh log bs w s t (suc i) x law leaves can none r =
    subst (λ (y : ℕ). NodeWord sh log (stocks_with_node w s bs) s i y (is_inner sh s)) (sym r)
    (fresh_word sh log (stocks_with_node w s bs) s i (is_inner sh s)
    (λ n e. elim (link_from sh.sizes.nodes bs w s n _ can.writer can.room e) [
      | inl f ↦ omega (arith, ap (λ (q : Spot). length q.path) f.1)
      | inr f ↦ no_child sh bs s i law (named_long sh.sizes.nodes bs s.lane s.path t can.named) none n f
    ])
    (λ v d. no_heads sh log bs v d s leaves none))

link_others : (sh : Layout) (ts : ℕ × ℕ) (log : List Ticket) (bs : List NodeStock) (w : ℕ) (s : Spot) (t : Slot) → NodesLaw sh bs → LeavesLaw sh log bs
    → CanLink sh bs w s t
    → ((n : ℕ) → node_at sh.sizes.nodes bs n ≡ Some s → ⊥)
    → (u : Slot) → (u ≡ t → ⊥) → (x : ℕ) → IsWordOf sh ts log bs u x → IsWordOf sh ts log (stocks_with_node w s bs) u x
link_others sh ts log bs w s t law leaves can none (tail k) ne x r = r
link_others sh ts log bs w s t law leaves can none (cell o i) ne x r = r
link_others sh ts log bs w s t law leaves can none (root l d) ne x r =
    link_names sh.sizes.nodes bs w s (spot l (d ∷ [])) x can.writer can.room
    (λ e. ne (sym (subst (λ (q : Spot). IsNamedBy sh.sizes.nodes bs q.lane q.path t) (sym e) can.named))) r
link_others sh ts log bs w s t law leaves can none (body n j) ne x r = elim (cases_eq n (free_of sh.sizes.nodes bs w)) [
  | inl e ↦
      let r0 : BodyWord sh log bs (free_of sh.sizes.nodes bs w) j x (node_at sh.sizes.nodes bs (free_of sh.sizes.nodes bs w)) =
      subst (λ (k : ℕ). BodyWord sh log bs k j x (node_at sh.sizes.nodes bs k)) e r in
      let r1 : BodyWord sh log bs (free_of sh.sizes.nodes bs w) j x None =
      subst (λ (o : Option Spot). BodyWord sh log bs (free_of sh.sizes.nodes bs w) j x o) (free_is_free sh.sizes.nodes bs w can.room) r0 in
      let r2 = fresh_body sh log bs w s t j x law leaves can none r1 in
      let r3 = subst (λ (o : Option Spot). BodyWord sh log (stocks_with_node w s bs) (free_of sh.sizes.nodes bs w) j x o)
      (sym (use_node_at_here sh.sizes.nodes bs w s can.writer can.room)) r2 in
      subst (λ (k : ℕ). BodyWord sh log (stocks_with_node w s bs) k j x (node_at sh.sizes.nodes (stocks_with_node w s bs) k)) (sym e) r3
  | inr far ↦
      subst (λ (o : Option Spot). BodyWord sh log (stocks_with_node w s bs) n j x o) (sym (use_node_at_other sh.sizes.nodes bs w s n can.writer far))
      (body_keeps sh log bs (stocks_with_node w s bs) n j x (node_at sh.sizes.nodes bs n) (link_grows sh.sizes.nodes bs w s can.writer can.room)
      (λ j0. use_spare sh.sizes.nodes bs w s n can.writer far)
      (λ q i e f. link_names sh.sizes.nodes bs w s (spot q.lane (i ∷ q.path)) x can.writer can.room (λ g.
      ne (ap (body n) f ∙ named_child sh.sizes.nodes bs n i q.lane q.path t (λ k. law.unique n k) e (law.shaped n q e).1
      (subst (λ (z : Spot). IsNamedBy sh.sizes.nodes bs z.lane z.path t) (sym g) can.named))))
      r)
]

-- the word that names a spot
word_named : (sh : Layout) (ts : ℕ × ℕ) (log : List Ticket) (bs : List NodeStock) (l : ℕ) (p : List ℕ) (t : Slot) (x : ℕ) → length p < sh.levels l
    → IsReal sh.sizes t
    → IsNamedBy sh.sizes.nodes bs l p t → IsWordOf sh ts log bs t x → IsChildFor sh.sizes.nodes bs (spot l p) x
word_named sh ts log bs l [] t x inner real h r = absurd h
word_named sh ts log bs l (d ∷ []) t x inner real h r = subst (λ (u : Slot). IsWordOf sh ts log bs u x) h r
word_named sh ts log bs l (d ∷ (e ∷ p)) t x inner real h r =
    let r1 : BodyWord sh log bs h.0 (suc d) x (node_at sh.sizes.nodes bs h.0) = subst (λ (u : Slot). IsWordOf sh ts log bs u x) h.3 r in
    let r2 : NodeWord sh log bs (spot l (e ∷ p)) d x (is_inner sh (spot l (e ∷ p))) = subst (λ (o : Option Spot). BodyWord sh log bs h.0 (suc d) x o) h.1 r1 in
    let r3 : NodeWord sh log bs (spot l (e ∷ p)) d x true =
    subst (λ (b : Bool). NodeWord sh log bs (spot l (e ∷ p)) d x b) (is_inner_true sh (spot l (e ∷ p)) inner) r2 in
    elim r3 [ inl k ↦ k.1 | inr k ↦ absurd (omega (arith, k.0, h.2)) ]

-- the word that names a used node
named_word : (sh : Layout) (ts : ℕ × ℕ) (log : List Ticket) (bs : List NodeStock) (l : ℕ) (p : List ℕ) (t : Slot) (n : ℕ) → length p < sh.levels l
    → IsNamedBy sh.sizes.nodes bs l p t → node_at sh.sizes.nodes bs n ≡ Some (spot l p) → IsWordOf sh ts log bs t (suc n)
named_word sh ts log bs l [] t n inner h at = absurd h
named_word sh ts log bs l (d ∷ []) t n inner h at = subst (λ (u : Slot). IsWordOf sh ts log bs u (suc n)) (sym h) (inr (n, refl, at))
named_word sh ts log bs l (d ∷ (e ∷ p)) t n inner h at =
    let r3 : NodeWord sh log bs (spot l (e ∷ p)) d (suc n) true = inl (h.2, inr (n, refl, at)) in
    let r2 : NodeWord sh log bs (spot l (e ∷ p)) d (suc n) (is_inner sh (spot l (e ∷ p))) =
    subst (λ (b : Bool). NodeWord sh log bs (spot l (e ∷ p)) d (suc n) b) (sym (is_inner_true sh (spot l (e ∷ p)) inner)) r3 in
    let r1 : BodyWord sh log bs h.0 (suc d) (suc n) (node_at sh.sizes.nodes bs h.0) =
    subst (λ (o : Option Spot). BodyWord sh log bs h.0 (suc d) (suc n) o) (sym h.1) r2 in
    subst (λ (u : Slot). IsWordOf sh ts log bs u (suc n)) (sym h.3) r1

-- a child word found 0 says that no node is used for what it stands for
pub none_from_zero : (sh : Layout) (ts : ℕ × ℕ) (log : List Ticket) (bs : List NodeStock) (words : List ℕ) (s : Spot) (t : Slot)
    → length s.path < sh.levels s.lane → IsReal sh.sizes t → IsNamedBy sh.sizes.nodes bs s.lane s.path t
    → Spells sh ts log bs words → get_or words (place sh.sizes t) 0 ≡ 0 → (n : ℕ) → node_at sh.sizes.nodes bs n ≡ Some s → ⊥
none_from_zero sh ts log bs words s t inner real named spells zero_word n e =
    elim (word_named sh ts log bs s.lane s.path t _ inner real named (spells t real)) [ inl k ↦ k.1 n e | inr k ↦ absurd (cc (k.1, zero_word)) ]

-- a child word found nonzero says which node is
pub node_from_word : (sh : Layout) (ts : ℕ × ℕ) (log : List Ticket) (bs : List NodeStock) (words : List ℕ) (s : Spot) (t : Slot) (n : ℕ)
    → length s.path < sh.levels s.lane → IsReal sh.sizes t → IsNamedBy sh.sizes.nodes bs s.lane s.path t
    → Spells sh ts log bs words → get_or words (place sh.sizes t) 0 ≡ suc n → node_at sh.sizes.nodes bs n ≡ Some s
node_from_word sh ts log bs words s t n inner real named spells found =
    elim (word_named sh ts log bs s.lane s.path t _ inner real named (spells t real)) [
      | inl k ↦ absurd (cc (k.0, found))
      | inr k ↦ let same : k.0 ≡ n = cc (k.1, found) in ap (node_at sh.sizes.nodes bs) (sym same) ∙ k.2
    ]

-- a used node's word names it still: what a pass knows of a child word
pub known_word : (sh : Layout) (ts : ℕ × ℕ) (log : List Ticket) (bs : List NodeStock) (words : List ℕ) (s : Spot) (t : Slot) (n : ℕ) → NodesLaw sh bs
    → length s.path < sh.levels s.lane → IsReal sh.sizes t → IsNamedBy sh.sizes.nodes bs s.lane s.path t
    → Spells sh ts log bs words → node_at sh.sizes.nodes bs n ≡ Some s → get_or words (place sh.sizes t) 0 ≡ suc n
known_word sh ts log bs words s t n law inner real named spells at =
    elim (word_named sh ts log bs s.lane s.path t _ inner real named (spells t real)) [
      | inl k ↦ absurd (k.1 n at)
      | inr k ↦ k.1 ∙ ap suc (law.unique k.0 n s k.2 at)
    ]

pub link_keeps : (sh : Layout) (ts : ℕ × ℕ) (log : List Ticket) (bs : List NodeStock) (words : List ℕ) (w : ℕ) (s : Spot) (t : Slot)
    → NodesLaw sh bs → LeavesLaw sh log bs → CanLink sh bs w s t → length words ≡ word_total sh.sizes
    → Spells sh ts log bs words → get_or words (place sh.sizes t) 0 ≡ 0
    → Spells sh ts log (stocks_with_node w s bs) (set words (place sh.sizes t) (suc (free_of sh.sizes.nodes bs w)))
link_keeps sh ts log bs words w s t law leaves can len spells zero_word =
    let none = none_from_zero sh ts log bs words s t can.inner can.real can.named spells zero_word in
    store_keeps sh ts ts log log bs (stocks_with_node w s bs) words t (suc (free_of sh.sizes.nodes bs w)) len can.real spells
    (λ u r ne x. link_others sh ts log bs w s t law leaves can none u ne x)
    (named_word sh ts log (stocks_with_node w s bs) s.lane s.path t _ can.inner
    (named_grows sh.sizes.nodes bs (stocks_with_node w s bs) (link_grows sh.sizes.nodes bs w s can.writer can.room) s.lane s.path t can.named)
    (use_node_at_here sh.sizes.nodes bs w s can.writer can.room))

pub label_law : (sh : Layout) (bs : List NodeStock) (w v : ℕ) → w < length bs → NodesLaw sh bs → NodesLaw sh (stocks_with_label w v bs)
label_law sh bs w v h law = let same = λ (n : ℕ). label_node_at sh.sizes.nodes bs w v n h in record {
  writers = relabel_length w v bs ∙ law.writers;
  room = λ u. subst (λ (k : ℕ). k ≤ sh.sizes.nodes) (sym (relabel_used w v bs u h)) (law.room u);
  unique = λ n k s e f. law.unique n k s (sym (same n) ∙ e) (sym (same k) ∙ f);
  shaped = λ n s e. law.shaped n s (sym (same n) ∙ e);
  parent = λ n l d e p f. let up = law.parent n l d e p (sym (same n) ∙ f) in (up.0, same up.0 ∙ up.1);
}

pub link_law : (sh : Layout) (bs : List NodeStock) (w : ℕ) (s : Spot) (t : Slot) → NodesLaw sh bs → CanLink sh bs w s t
    → ((n : ℕ) → node_at sh.sizes.nodes bs n ≡ Some s → ⊥) → NodesLaw sh (stocks_with_node w s bs)
link_law sh bs w s t law can none = let from =
    λ (n : ℕ) (r : Spot) (e : node_at sh.sizes.nodes (stocks_with_node w s bs) n ≡ Some r). link_from sh.sizes.nodes bs w s n r can.writer can.room e in
    record {
      writers = use_length w s bs ∙ law.writers;
      room = λ u. use_room sh.sizes.nodes w s bs u can.writer can.room (law.room u);
      unique = λ n k r e f. elim (from n r e) [
        | inl a ↦ elim (from k r f) [
          | inl b ↦ a.0 ∙ sym b.0
          | inr b ↦ absurd (none k (b ∙ ap (λ (q : Spot). Some q) a.1))
        ]
        | inr a ↦ elim (from k r f) [
          | inl b ↦ absurd (none n (a ∙ ap (λ (q : Spot). Some q) b.1))
          | inr b ↦ law.unique n k r a b
        ]
      ];
      shaped = λ n r e. elim (from n r e) [
        | inl a ↦ subst (λ (q : Spot). (q.lane < sh.sizes.lanes) × (0 < length q.path) × (length q.path < sh.levels q.lane)) (sym a.1)
            (can.lane, named_long sh.sizes.nodes bs s.lane s.path t can.named, can.inner)
        | inr a ↦ law.shaped n r a
      ];
      parent = λ n l d e p f. elim (from n _ f) [
        | inl a ↦
            let up : IsNamedBy sh.sizes.nodes bs l (d ∷ (e ∷ p)) t = subst (λ (q : Spot). IsNamedBy sh.sizes.nodes bs q.lane q.path t) (sym a.1) can.named in
            (up.0, link_grows sh.sizes.nodes bs w s can.writer can.room up.0 _ up.1)
        | inr a ↦ let up = law.parent n l d e p a in (up.0, link_grows sh.sizes.nodes bs w s can.writer can.room up.0 _ up.1)
      ];
    }

pub link_leaves : (sh : Layout) (log : List Ticket) (bs : List NodeStock) (w : ℕ) (s : Spot) → w < length bs → length (stock_of bs w).used < sh.sizes.nodes
    → LeavesLaw sh log bs → LeavesLaw sh log (stocks_with_node w s bs)
link_leaves sh log bs w s h room leaves o t l at linked = let y = leaves o t l at linked in
    (y.0, y.1, y.2, y.3, link_grows sh.sizes.nodes bs w s h room y.2 _ y.4)

pub label_leaves : (sh : Layout) (log : List Ticket) (bs : List NodeStock) (w v : ℕ) → w < length bs
    → LeavesLaw sh log bs → LeavesLaw sh log (stocks_with_label w v bs)
label_leaves sh log bs w v h leaves o t l at linked = let y = leaves o t l at linked in (y.0, y.1, y.2, y.3, label_node_at sh.sizes.nodes bs w v y.2 h ∙ y.4)

-- The mark, past the end.
over_others : (sh : Layout) (ts ts' : ℕ × ℕ) (log : List Ticket) (bs : List NodeStock) (w : ℕ) → w < length bs → ts'.1 ≡ ts.1
    → (t : Slot) → (t ≡ tail 0 → ⊥) → (x : ℕ) → IsWordOf sh ts log bs t x → IsWordOf sh ts' log (stocks_with_mark w bs) t x
over_others sh ts ts' log bs w h e (tail zero) ne x r = absurd (ne refl)
over_others sh ts ts' log bs w h e (tail (suc k)) ne x r = r ∙ sym e
over_others sh ts ts' log bs w h e (cell o i) ne x r = r
over_others sh ts ts' log bs w h e (root l d) ne x r = names_same sh.sizes.nodes bs (stocks_with_mark w bs) _ x (λ n. over_node_at sh.sizes.nodes bs w n h) r
over_others sh ts ts' log bs w h e (body n j) ne x r =
    let same = λ (k : ℕ). over_node_at sh.sizes.nodes bs w k h in
    subst (λ (o : Option Spot). BodyWord sh log (stocks_with_mark w bs) n j x o) (sym (same n))
    (body_keeps sh log bs (stocks_with_mark w bs) n j x (node_at sh.sizes.nodes bs n) (λ k s f. same k ∙ f)
    (λ j0. over_spare sh.sizes.nodes bs w n h)
    (λ s i f g. names_same sh.sizes.nodes bs (stocks_with_mark w bs) _ x same) r)

pub over_keeps : (sh : Layout) (ts : ℕ × ℕ) (log : List Ticket) (bs : List NodeStock) (words : List ℕ) (w : ℕ) → length words ≡ word_total sh.sizes
    → w < length bs
    → Spells sh ts log bs words → Spells sh (suc ts.0, ts.1) log (stocks_with_mark w bs) (set words (place sh.sizes (tail 0)) (suc ts.0))
over_keeps sh ts log bs words w len h spells =
    store_keeps sh ts (suc ts.0, ts.1) log log bs (stocks_with_mark w bs) words (tail 0) (suc ts.0) len (omega arith) spells
    (λ u r ne x. over_others sh ts (suc ts.0, ts.1) log bs w h refl u ne x) refl

pub over_law : (sh : Layout) (bs : List NodeStock) (w : ℕ) → w < length bs → NodesLaw sh bs → NodesLaw sh (stocks_with_mark w bs)
over_law sh bs w h law = let same = λ (n : ℕ). over_node_at sh.sizes.nodes bs w n h in record {
  writers = over_length w bs ∙ law.writers;
  room = λ u. subst (λ (k : ℕ). k ≤ sh.sizes.nodes) (sym (over_used bs w u h)) (law.room u);
  unique = λ n k s e f. law.unique n k s (sym (same n) ∙ e) (sym (same k) ∙ f);
  shaped = λ n s e. law.shaped n s (sym (same n) ∙ e);
  parent = λ n l d e p f. let up = law.parent n l d e p (sym (same n) ∙ f) in (up.0, same up.0 ∙ up.1);
}
