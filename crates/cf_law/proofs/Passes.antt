-- What a pass knows stays true, and what its loads tell.
use Rattle.std.proofs.Common.{◌≡◌, ℕ, ◌+◌, ◌*◌, ◌%◌, ◌^◌, ◌<◌, ◌≤◌, ◌⊎◌, zero, suc, List, [], ◌∷◌, length, get_or, Option, Some, None, slice_get, cond, Bool, true, false, inl, inr, refl, arith, ap, ap₂, sym, ◌∙◌, subst}
use Rattle.cf_row.proofs.Truths.{eq_false, lt_true}
use Rattle.cf_row.specs.Row.{RowValue}
use Rattle.cf_shape.specs.Places.{head_slot}
use Rattle.std.proofs.lemmas.Bool.{cases_eq}
use Rattle.std.specs.Bool.{nat_lt}
use Rattle.cf_shape.specs.Places.{Slot, place, IsReal}
use Rattle.cf_shape.specs.Places.Slot.{cell}
use Rattle.cf_law.specs.Words.{Spot, spot, Layout, Ticket, NodeStock, node_at, IsNamedBy, NodeWord, BodyWord, is_inner, Spells, chain, link_to_newest, has, ticket_word, full_word, used_word, lane_word, version_word}
use Rattle.cf_shape.specs.Uses.Use.{version}
use Rattle.cf_law.specs.Law.{NodesLaw}
use Rattle.cf_law.specs.Passes.{Cursor}
use Rattle.cf_law.specs.Steps.{met_of}
use Rattle.cf_law.specs.Lawful.{Known, IsFilledIn, Leads, HasWriter, CursorLaw, CursorIs, DoneAt}
use Rattle.cf_law.proofs.Nodes.{row_of, col_of}
use Rattle.cf_law.proofs.Chains.{has_first, has_rest, links_true, links_intro, chain_has, chain_is, IsEntry}
use Rattle.cf_law.proofs.Links.{Grows, known_word}

pub no_gap : {A : Type 0} (xs : List A) (i : ℕ) → i < length xs → slice_get xs i ≡ None → ⊥
no_gap [] i lt e = omega arith
no_gap (x ∷ xs) zero lt e = cc
no_gap (x ∷ xs) (suc i) lt e = no_gap xs i (omega arith) e

top_of_entry : (sh : Layout) (log : List Ticket) (w : ℕ) (s : Spot) (n v : ℕ) → IsEntry sh log w s n v → v ≤ n
top_of_entry sh log w s n zero h = omega arith
top_of_entry sh log w s n (suc o) h = h.0

pub top_within : (sh : Layout) (log : List Ticket) (w : ℕ) (s : Spot) (n : ℕ) → link_to_newest (chain sh log w s n) ≤ n
top_within sh log w s n = top_of_entry sh log w s n (link_to_newest (chain sh log w s n)) (chain_is sh log w s n)

version_low : (sh : Layout) (l : ℕ) (c : List (ℕ × RowValue)) (r : RowValue) → link_to_newest c < 2 ^ 32 → version_word sh l 0 c r % 2 ^ 32 ≡ link_to_newest c
unfolding version_word
version_low sh l c r h = omega arith

-- A log evolves: each ticket keeps its writer and row, and is filled no less.
pub record Becomes (t u : Ticket) : Type 0 where
  pub writer : u.writer ≡ t.writer
  pub row : u.row ≡ t.row
  pub filled : t.filled ≤ u.filled
  pub done : t.is_done ≡ true → u.is_done ≡ true

abbrev pub Evolves : List Ticket → List Ticket → Type 0
Evolves log log' = (o : ℕ) (t : Ticket) → slice_get log o ≡ Some t → (u : Ticket) × (slice_get log' o ≡ Some u) × Becomes t u

pub known_grows : (sh : Layout) (bs bs' : List NodeStock) (x : Spot × ℕ) → Grows sh.sizes.nodes bs bs' → Known sh bs x → Known sh bs' x
known_grows sh bs bs' x grows k = grows x.1 x.0 k

-- a known child word still has its value
pub known_holds : (sh : Layout) (ts : ℕ × ℕ) (log : List Ticket) (bs : List NodeStock) (words : List ℕ) (x : Spot × ℕ) (t : Slot) → NodesLaw sh bs
    → Spells sh ts log bs words → Known sh bs x
    → IsReal sh.sizes t → IsNamedBy sh.sizes.nodes bs x.0.lane x.0.path t → get_or words (place sh.sizes t) 0 ≡ suc x.1
known_holds sh ts log bs words x t law spells k real named = known_word sh ts log bs words x.0 t x.1 law (law.shaped x.1 x.0 k).2 real named spells k

leads_evolves : (sh : Layout) (log log' : List Ticket) (c : Cursor) (v : ℕ) → Evolves log log' → Leads sh log c v → Leads sh log' c v
leads_evolves sh log log' c zero ev h = h
leads_evolves sh log log' c (suc o) ev h = let u = ev o h.0 h.1 in let b = u.2 in (
  u.0,
  u.1,
  b.writer ∙ h.2,
  ap (λ (r : RowValue). sh.path r c.spot.lane) b.row ∙ h.3,
  λ k j is within. let f = h.4 k j is within in omega (arith, f, b.filled),
)

pub cursor_evolves : (sh : Layout) (log log' : List Ticket) (seen : ℕ) (c : Option Cursor) → Evolves log log' → seen ≤ length log → CursorIs sh log seen c
    → CursorIs sh log' seen c
cursor_evolves sh log log' seen None ev le h = h
cursor_evolves sh log log' seen (Some c) ev le h = record {
  leads = leads_evolves sh log log' c c.link ev h.leads;
  left = λ i u lt at w p. back i u lt at w p (slice_get log i) refl;
  met = λ i x at. (let k = h.met i x at in let u = ev x.0 k.0 k.1 in (u.0, u.1, (u.2).writer ∙ k.2));
}
  where
    back : (i : ℕ) (u : Ticket) → i < seen → slice_get log' i ≡ Some u → u.writer ≡ c.writer → sh.path u.row c.spot.lane ≡ Some c.spot.path
        → (o : Option Ticket) → slice_get log i ≡ o
        → (i < c.link) ⊎ (has c.gone i ≡ true)
    back i u lt at w p None e = absurd (no_gap log i (omega arith) e)
    back i u lt at w p (Some t) e =
        let x = ev i t e in
        let b = x.2 in
        let same : u ≡ x.0 = cc (at, x.1) in
        let writer : t.writer ≡ c.writer = sym b.writer ∙ (ap (λ (q : Ticket). q.writer) (sym same) ∙ w) in
        let row : t.row ≡ u.row = sym b.row ∙ ap (λ (q : Ticket). q.row) (sym same) in
        h.left i t lt e writer (ap (λ (r : RowValue). sh.path r c.spot.lane) row ∙ p)

pub done_evolves : (log log' : List Ticket) (o : ℕ) → Evolves log log' → DoneAt log o → DoneAt log' o
done_evolves log log' o ev h = let u = ev o h.0 h.1 in (u.0, u.1, (u.2).done h.2)

-- The walk. A head begins it.
pub head_word : (sh : Layout) (ts : ℕ × ℕ) (log : List Ticket) (bs : List NodeStock) (words : List ℕ) (n d w l : ℕ) (p : List ℕ)
    → IsReal sh.sizes (head_slot sh.sizes n d w) → w < sh.sizes.writers → node_at sh.sizes.nodes bs n ≡ Some (spot l p) → is_inner sh (spot l p) ≡ false
    → Spells sh ts log bs words → get_or words (place sh.sizes (head_slot sh.sizes n d w)) 0 ≡ link_to_newest (chain sh log w (spot l (d ∷ p)) (length log))
head_word sh ts log bs words n d w l p real lt at outer spells =
    let v = get_or words (place sh.sizes (head_slot sh.sizes n d w)) 0 in
    let r0 : BodyWord sh log bs n (suc (d * sh.sizes.writers + w)) v (node_at sh.sizes.nodes bs n) = spells (head_slot sh.sizes n d w) real in
    let r1 : NodeWord sh log bs (spot l p) (d * sh.sizes.writers + w) v (is_inner sh (spot l p)) =
    subst (λ (o : Option Spot). BodyWord sh log bs n (suc (d * sh.sizes.writers + w)) v o) at r0 in
    let r2 : NodeWord sh log bs (spot l p) (d * sh.sizes.writers + w) v false =
    subst (λ (b : Bool). NodeWord sh log bs (spot l p) (d * sh.sizes.writers + w) v b) outer r1 in
    r2 ∙ ap₂ (λ (u e : ℕ). link_to_newest (chain sh log u (spot l (e ∷ p)) (length log))) (col_of sh.sizes.writers d w lt) (row_of sh.sizes.writers d w lt)

-- what the law says of tickets, as far as a walk needs it
pub record WalkLaw (sh : Layout) (log : List Ticket) (seen : ℕ) : Type 0 where
  pub full : (o l : ℕ) (t : Ticket) → slice_get log o ≡ Some t → has t.linked l ≡ true → IsFilledIn sh t l
  pub linked : (o l : ℕ) (t : Ticket) (p : List ℕ) → o < seen → slice_get log o ≡ Some t → sh.path t.row l ≡ Some p → has t.linked l ≡ true
  pub within : seen ≤ length log

entry_leads : (sh : Layout) (log : List Ticket) (seen w : ℕ) (s : Spot) (n : ℕ) (gone : List ℕ) (met : List (ℕ × ℕ)) (k v : ℕ) → WalkLaw sh log seen
    → IsEntry sh log w s n v → Leads sh log (record { writer = w; spot = s; link = k; gone = gone; met = met }) v
entry_leads sh log seen w s n gone met k zero law h = tt
entry_leads sh log seen w s n gone met k (suc o) law h = let x = links_true sh w s h.1 h.3 in (h.1, h.2, x.0, x.2, law.full o s.lane h.1 h.2 x.1)

pub walk_begins : (sh : Layout) (log : List Ticket) (seen w : ℕ) (s : Spot) (met : List (ℕ × ℕ)) → WalkLaw sh log seen
    → ((i : ℕ) (x : ℕ × ℕ) → slice_get met i ≡ Some x → HasWriter log x)
    → CursorLaw sh log seen (record { writer = w; spot = s; link = link_to_newest (chain sh log w s (length log)); gone = []; met = met })
walk_begins sh log seen w s met law theirs = record {
  leads = entry_leads sh log seen w s (length log) [] met (link_to_newest (chain sh log w s (length log))) (link_to_newest (chain sh log w s (length log))) law
      (chain_is sh log w s (length log));
  left = λ i t lt at e p. inl
      (chain_has sh log w s (length log) i t at (links_intro sh w s t e (law.linked i s.lane t s.path lt at p) p) (omega (arith, law.within)));
  met = theirs;
}

-- what earlier walks went by
pub met_law : (sh : Layout) (log : List Ticket) (seen : ℕ) (c : Option Cursor) → CursorIs sh log seen c → (i : ℕ) (x : ℕ × ℕ)
    → slice_get (met_of c) i ≡ Some x → HasWriter log x
met_law sh log seen None h zero x at = absurd (cc at)
met_law sh log seen None h (suc i) x at = absurd (cc at)
met_law sh log seen (Some c) h i x at = h.met i x at

met_more : (log : List Ticket) (o w : ℕ) (met : List (ℕ × ℕ)) → HasWriter log (o, w) → ((i : ℕ) (x : ℕ × ℕ) → slice_get met i ≡ Some x → HasWriter log x)
    → (i : ℕ) (x : ℕ × ℕ) → slice_get ((o, w) ∷ met) i ≡ Some x → HasWriter log x
met_more log o w met new old zero x at = (let same : ◌≡◌ {A = ℕ × ℕ} (o, w) x = cc at in subst (HasWriter log) same new)
met_more log o w met new old (suc i) x at = old i x at

-- The cell that the link names leads it on.
pub walk_goes : (sh : Layout) (log : List Ticket) (seen : ℕ) (c : Cursor) (o : ℕ) → WalkLaw sh log seen → c.link ≡ suc o → CursorLaw sh log seen c
    → CursorLaw sh log seen
    (record { writer = c.writer; spot = c.spot; link = link_to_newest (chain sh log c.writer c.spot o); gone = o ∷ c.gone; met = (o, c.writer) ∷ c.met })
walk_goes sh log seen c o law is h = record {
  leads = entry_leads sh log seen c.writer c.spot o (o ∷ c.gone) ((o, c.writer) ∷ c.met) (link_to_newest (chain sh log c.writer c.spot o))
      (link_to_newest (chain sh log c.writer c.spot o)) law (chain_is sh log c.writer c.spot o);
  left = λ i t lt at e p. elim (h.left i t lt at e p) [
    | inr g ↦ inr (has_rest o i c.gone g)
    | inl g ↦ elim (cases_eq i o) [
      | inl f ↦ inr (subst (λ (q : ℕ). has (q ∷ c.gone) i ≡ true) f (has_first i c.gone))
      | inr ne ↦ inl
          (chain_has sh log c.writer c.spot o i t at (links_intro sh c.writer c.spot t e (law.linked i c.spot.lane t c.spot.path lt at p) p) (omega arith))
    ]
  ];
  met = (let named = subst (Leads sh log c) is h.leads in met_more log o c.writer c.met (named.0, named.1, named.2) h.met);
}

-- the word that is found there
pub previous_word : (sh : Layout) (ts : ℕ × ℕ) (log : List Ticket) (bs : List NodeStock) (words : List ℕ) (c : Cursor) (o k : ℕ)
    → Leads sh log c (suc o) → sh.use_of k ≡ version c.spot.lane 0 → suc k < sh.sizes.ticket_words → o < sh.sizes.tickets → sh.sizes.tickets < 2 ^ 32
    → Spells sh ts log bs words → get_or words (place sh.sizes (cell o k)) 0 % 2 ^ 32 ≡ link_to_newest (chain sh log c.writer c.spot o)
previous_word sh ts log bs words c o k leads is within room small spells =
    let t = leads.0 in
    let v = get_or words (place sh.sizes (cell o k)) 0 in
    let r0 : v ≡ ticket_word sh log o k (slice_get log o) = spells (cell o k) (room, omega arith) in
    let r1 : ticket_word sh log o k (Some t) ≡ full_word sh log o t k =
    ap (λ (b : Bool). cond b (Rattle.cf_law.specs.Words.done_word t.is_done) (cond (nat_lt k t.filled) (full_word sh log o t k) 0))
    (eq_false (suc k) sh.sizes.ticket_words (λ e. omega arith))
    ∙ ap (λ (b : Bool). cond b (full_word sh log o t k) 0) (lt_true k t.filled (leads.4 k 0 is within)) in
    let r2 : full_word sh log o t k ≡ version_word sh c.spot.lane 0 (chain sh log t.writer c.spot o) t.row =
    ap (used_word sh log o t) is ∙ ap (lane_word sh log o c.spot.lane 0 t) leads.3 in
    let r3 : chain sh log t.writer c.spot o ≡ chain sh log c.writer c.spot o = ap (λ (w : ℕ). chain sh log w c.spot o) leads.2 in
    let below : link_to_newest (chain sh log c.writer c.spot o) ≤ o = top_within sh log c.writer c.spot o in
    ap (λ (q : ℕ). q % 2 ^ 32)
    (r0 ∙ (ap (ticket_word sh log o k) leads.1 ∙ (r1 ∙ (r2 ∙ ap (λ (q : List (ℕ × RowValue)). version_word sh c.spot.lane 0 q t.row) r3))))
    ∙ version_low sh c.spot.lane (chain sh log c.writer c.spot o) t.row (omega arith)
