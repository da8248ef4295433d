-- The word of a child is loaded, and a node labelled and linked there: what that does to a writer's pass.
use Rattle.std.proofs.Common.{◌≡◌, ℕ, ◌+◌, ◌-◌, ◌*◌, ◌<◌, ◌≤◌, zero, suc, inl, inr, List, [], ◌∷◌, ◌++◌, length, get_or, set, mul_comm, append-nil, append_assoc, Option, Some, None, MatchOption, slice_get, refl, ap, sym, subst, ◌∙◌, arith}
use Rattle.cf_shape.specs.Lanes.{ShapeValue}
use Rattle.cf_shape.specs.Places.{Slot, place, sizes_of}
use Rattle.cf_law.specs.Words.{Spot, spot, Layout}
use Rattle.cf_law.specs.Passes.{Book, Pass}
use Rattle.std.proofs.lemmas.Nat.{mul-add-lt}
use Rattle.cf_law.specs.Events.{no_book}
use Rattle.cf_law.specs.Steps.{Holds, free_node, Knows, Reaches, IsChild, pass_with_node, pass_with_look, book_with_label, book_with_node, pass_with_book}
use Rattle.cf_law.specs.Shapes.{layout}
use Rattle.cf_law.proofs.Moves.{at_either}
use Rattle.cf_table.specs.Values.{PassValue, LogValue, book_of}
use Rattle.cf_table.specs.Loads.{CountsLoads}
use Rattle.cf_table.specs.Effects.{HasStepped, HasSteppedUnseen, child_effect, label_effect, link_effect}
use Rattle.cf_table.proofs.Mays.{the_book}
use Rattle.cf_append.specs.Appends.{Rests}
use Rattle.cf_append.specs.Calls.{HasMadeNodes}
use Rattle.cf_append.specs.Paths.{KeepsSeen, HasUsed, LacksNode, IsNodeOf, with_nodes}
use Rattle.cf_append.proofs.Appending.{rests_by}

pub strides_by : (m n : PassValue) (q : Pass) → n ≡ record m { view = n.view } → n.view ≡ q → q.seen ≡ (m.view).seen → q.tails ≡ (m.view).tails
    → q.told ≡ (m.view).told
    → ((s : Spot) (node : ℕ) → Knows m.view s node → Knows q s node) → ((m.view).look).count ≤ (q.look).count → KeepsSeen m n
strides_by m n q same is seen tails told knows looks = record {
  same = same;
  seen = ap (λ (p : Pass). p.seen) is ∙ seen;
  tails = ap (λ (p : Pass). p.tails) is ∙ tails;
  told = ap (λ (p : Pass). p.told) is ∙ told;
  knows = λ s node h. subst (λ (p : Pass). Knows p s node) (sym is) (knows s node h);
  looks = (let e = ap (λ (p : Pass). (p.look).count) is in omega (arith, e, looks));
}

pub strides_none : (m : PassValue) → KeepsSeen m m
strides_none m = record { same = refl; seen = refl; tails = refl; told = refl; knows = λ s node h. h; looks = omega arith }

pub strides_then : (m n o : PassValue) → KeepsSeen m n → KeepsSeen n o → KeepsSeen m o
strides_then m n o a b = record {
  same = b.same ∙ ap (λ (h : PassValue). record h { view = o.view }) a.same;
  seen = b.seen ∙ a.seen;
  tails = b.tails ∙ a.tails;
  told = b.told ∙ a.told;
  knows = λ s node h. b.knows s node (a.knows s node h);
  looks = (let e = a.looks in let f = b.looks in omega (arith, e, f));
}

pub knows_more : (p : Pass) (t : Spot) (j : ℕ) (s : Spot) (k : ℕ) → Knows p s k → Knows (pass_with_node t j p) s k
knows_more p t j s k h = (suc h.0, h.1)

pub reaches_still : (p q : Pass) (l : ℕ) (path : List ℕ) (t : Slot) → ((s : Spot) (k : ℕ) → Knows p s k → Knows q s k) → Reaches p l path t → Reaches q l path t
reaches_still p q l [] t keeps h = h
reaches_still p q l (d ∷ []) t keeps h = h
reaches_still p q l (d ∷ (e ∷ r)) t keeps h = (let k = keeps (spot l (e ∷ r)) h.0 (h.1, h.2) in (h.0, k.0, k.1, h.3, h.4))

pub child_still : (sh : Layout) (m n : PassValue) (s : Spot) (t : Slot) → KeepsSeen m n → IsChild sh m.view s t → IsChild sh n.view s t
child_still sh m n s t went child =
    record { reaches = reaches_still m.view n.view s.lane s.path t went.knows child.reaches; real = child.real; inner = child.inner }

pub holds_rested : (p : Pass) → Rests p → Holds p 0 (book_of p)
holds_rested p rest = ap (λ (bs : List Book). slice_get bs 0) rest.one

-- A child word was loaded.
pub load_strides : (shape : ShapeValue) (m n : PassValue) (s : Spot) (t : Slot) (found : ℕ) → HasStepped shape (child_effect shape m.view s t) m found n
    → KeepsSeen m n
load_strides shape m n s t zero made =
    strides_by m n (pass_with_look (place (sizes_of shape) t) 0 m.view) made.same made.told.is refl refl refl (λ r k h. h) (omega arith)
load_strides shape m n s t (suc k) made =
    strides_by m n (pass_with_look (place (sizes_of shape) t) (suc k) (pass_with_node s k m.view)) made.same made.told.is refl refl refl
    (knows_more m.view s k) (omega arith)

pub load_books : (shape : ShapeValue) (m n : PassValue) (s : Spot) (t : Slot) (found : ℕ) → HasStepped shape (child_effect shape m.view s t) m found n
    → (n.view).books ≡ (m.view).books
load_books shape m n s t zero made = ap (λ (p : Pass). p.books) made.told.is
load_books shape m n s t (suc k) made = ap (λ (p : Pass). p.books) made.told.is

-- the node that a child word names
named_by : (s : Spot) (k : ℕ) (p : Pass) → Knows (pass_with_node s k p) s (suc k - 1)
named_by s k p = (0, ap (λ (j : ℕ). Some (s, j)) (let e : k ≡ suc k - 1 = omega arith in e))

pub load_knows : (shape : ShapeValue) (m n : PassValue) (s : Spot) (t : Slot) (found : ℕ) → HasStepped shape (child_effect shape m.view s t) m found n
    → (found ≡ 0 → ⊥) → Knows n.view s (found - 1)
load_knows shape m n s t zero made some = absurd (some refl)
load_knows shape m n s t (suc k) made some = subst (λ (p : Pass). Knows p s (suc k - 1)) (sym made.told.is) (named_by s k m.view)

pub load_node : (shape : ShapeValue) (m n : PassValue) (s : Spot) (t : Slot) (found : ℕ) → HasStepped shape (child_effect shape m.view s t) m found n
    → (found ≡ 0 → ⊥) → IsNodeOf shape n.view s (found - 1)
load_node shape m n s t found made some =
    let k = load_knows shape m n s t found made some in
    record { knows = k; low = (made.told.bounds.known k.0 (found - 1) s k.1).0 }

-- none is left for a child word that was 0
pub same_book : (m n : PassValue) → (n.view).books ≡ (m.view).books → book_of n.view ≡ book_of m.view
same_book m n same = ap (λ (bs : List Book). get_or bs 0 (no_book 0)) same

pub rests_same : (m n : PassValue) → Rests m.view → (n.view).books ≡ (m.view).books → Rests n.view
rests_same m n rest same = rests_by n.view (book_of m.view) (same ∙ rest.one) rest.free

pub load_stuck : (shape : ShapeValue) (m n : PassValue) (s : Spot) (t : Slot) (found : ℕ) → found ≡ 0
    → HasStepped shape (child_effect shape m.view s t) m found n → IsChild (layout shape) m.view s t → Rests m.view → length (book_of n.view).used ≡ shape.nodes
    → LacksNode shape (λ r. r ≡ s) m n
load_stuck shape m n s t (suc k) none made child rest full = absurd (cc none)
load_stuck shape m n s t zero none made child rest full =
    let is = made.told.is in
    let went = load_strides shape m n s t 0 made in
    let books = load_books shape m n s t 0 made in
    let after = rests_same m n rest books in
    let before : Holds m.view 0 (book_of n.view) = ap (λ (bs : List Book). slice_get bs 0) (sym books) ∙ holds_rested n.view after in record {
      full = full;
      apart = λ i j r one two. made.told.bounds.apart 0 i j (book_of n.view) r (holds_rested n.view after) one two;
      at = s;
      on = refl;
      slot = t;
      reaches = (child_still (layout shape) m n s t went child).reaches;
      word = ap (λ (p : Pass). (p.look).word) is;
      value = ap (λ (p : Pass). (p.look).value) is;
      since = (let e = ap (λ (p : Pass). (p.look).count) is in omega (arith, e));
      other = λ j at. (made.told.tells.none s child refl).1 0 j (book_of n.view) before at;
    }

-- the free node
pub writer_low : (shape : ShapeValue) (m n : PassValue) (s : Spot) (t : Slot) (found : ℕ) → Rests m.view
    → HasStepped shape (child_effect shape m.view s t) m found n → (book_of n.view).writer < shape.writers
writer_low shape m n s t found rest made =
    made.told.bounds.writer 0 (book_of n.view) (holds_rested n.view (rests_same m n rest (load_books shape m n s t found made)))

abbrev pub IsFree : PassValue → ℕ → Type 0
IsFree n node = (length (book_of n.view).used < n.nodes) × (node ≡ (book_of n.view).writer * n.nodes + length (book_of n.view).used)

pub label_room : (shape : ShapeValue) (n : PassValue) (node : ℕ) → n.nodes ≡ shape.nodes → IsFree n node → (length (book_of n.view).used < shape.nodes)
    × (node ≡ free_node (layout shape) (book_of n.view))
label_room shape n node nodes free =
    ((let low = free.0 in omega (arith, low, nodes)), free.1 ∙ ap (λ (k : ℕ). (book_of n.view).writer * k + length (book_of n.view).used) nodes)

pub node_low : (shape : ShapeValue) (n : PassValue) (node : ℕ) → n.nodes ≡ shape.nodes → (book_of n.view).writer < shape.writers → IsFree n node
    → node < shape.writers * shape.nodes
node_low shape n node nodes low free =
    let room = label_room shape n node nodes free in
    let most = mul-add-lt (book_of n.view).writer shape.nodes (length (book_of n.view).used) shape.writers low room.0 in
    let is = room.1 in
    omega (arith, most, is, mul_comm shape.nodes shape.writers)

-- A label was stored.
pub label_strides : (shape : ShapeValue) (m n : PassValue) (node value : ℕ) → HasSteppedUnseen shape (label_effect m.view node value) m n → KeepsSeen m n
label_strides shape m n node value stored =
    strides_by m n (pass_with_book 0 (book_with_label value (book_of m.view)) m.view) stored.made.same stored.made.told.is refl refl refl (λ r k h. h)
    (omega arith)

pub label_books : (shape : ShapeValue) (m n : PassValue) (node value : ℕ) → Rests m.view → HasSteppedUnseen shape (label_effect m.view node value) m n
    → (n.view).books ≡ book_with_label value (book_of m.view) ∷ []
label_books shape m n node value rest stored =
    ap (λ (p : Pass). p.books) stored.made.told.is ∙ ap (λ (bs : List Book). set bs 0 (book_with_label value (book_of m.view))) rest.one

-- A link was tried.
pub link_strides : (shape : ShapeValue) (m n : PassValue) (s : Spot) (t : Slot) (node found : ℕ) → HasStepped shape (link_effect m.view s t node) m found n
    → KeepsSeen m n
link_strides shape m n s t node zero made =
    strides_by m n (pass_with_book 0 (book_with_node s (book_of m.view)) (pass_with_node s node m.view)) made.same made.told.is refl refl refl
    (knows_more m.view s node) (omega arith)
link_strides shape m n s t node (suc k) made =
    strides_by m n (pass_with_node s k m.view) made.same made.told.is refl refl refl (knows_more m.view s k) (omega arith)

pub link_won : (shape : ShapeValue) (m n : PassValue) (s : Spot) (t : Slot) (node found : ℕ) → HasStepped shape (link_effect m.view s t node) m found n
    → found ≡ 0 → Rests m.view → (n.view).books ≡ book_with_node s (book_of m.view) ∷ []
link_won shape m n s t node zero made won rest = ap (λ (p : Pass). p.books) made.told.is
    ∙ ap (λ (bs : List Book). set bs 0 (book_with_node s (book_of m.view))) rest.one
link_won shape m n s t node (suc k) made won rest = absurd (cc won)

pub link_lost : (shape : ShapeValue) (m n : PassValue) (s : Spot) (t : Slot) (node found : ℕ) → HasStepped shape (link_effect m.view s t node) m found n
    → (found ≡ 0 → ⊥) → (n.view).books ≡ (m.view).books
link_lost shape m n s t node zero made lost = absurd (lost refl)
link_lost shape m n s t node (suc k) made lost = ap (λ (p : Pass). p.books) made.told.is

pub won_node : (shape : ShapeValue) (m n : PassValue) (s : Spot) (t : Slot) (node found : ℕ) → HasStepped shape (link_effect m.view s t node) m found n
    → found ≡ 0 → IsNodeOf shape n.view s node
won_node shape m n s t node zero made won =
    let k : Knows n.view s node = subst (λ (p : Pass). Knows p s node) (sym made.told.is) (0, refl) in
    record { knows = k; low = (made.told.bounds.known k.0 node s k.1).0 }
won_node shape m n s t node (suc k) made won = absurd (cc won)

pub lost_node : (shape : ShapeValue) (m n : PassValue) (s : Spot) (t : Slot) (node found : ℕ) → HasStepped shape (link_effect m.view s t node) m found n
    → (found ≡ 0 → ⊥) → IsNodeOf shape n.view s (found - 1)
lost_node shape m n s t node zero made lost = absurd (lost refl)
lost_node shape m n s t node (suc j) made lost =
    let k : Knows n.view s (suc j - 1) = subst (λ (p : Pass). Knows p s (suc j - 1)) (sym made.told.is) (named_by s j m.view) in
    record { knows = k; low = (made.told.bounds.known k.0 (suc j - 1) s k.1).0 }

-- Nodes that were used.
pub used_none : (On : Spot → Type 0) (m n : PassValue) (b : Book) (label : ℕ) → (n.view).books ≡ record b { label = label } ∷ [] → b ≡ book_of m.view
    → HasUsed On m n
used_none On m n b label is same = record {
  spots = [];
  label = label;
  books = is ∙ (ap (λ (c : Book). record c { label = label } ∷ []) same
      ∙ ap (λ (us : List Spot). record (book_of m.view) { used = us; label = label } ∷ []) (sym (append-nil (book_of m.view).used)));
  on = λ j s at. absurd (cc at);
}

pub used_same : (On : Spot → Type 0) (m n : PassValue) → Rests m.view → (n.view).books ≡ (m.view).books → HasUsed On m n
used_same On m n rest same = used_none On m n (book_of m.view) (book_of m.view).label (same ∙ rest.one) refl

only : (s r : Spot) (j : ℕ) → slice_get (s ∷ []) j ≡ Some r → r ≡ s
only s r zero at = cc at
only s r (suc j) at = absurd (cc at)

-- a node was labelled and linked
pub used_won : (shape : ShapeValue) (m n o z : PassValue) (s : Spot) (t : Slot) (node value found : ℕ) → Rests m.view → (n.view).books ≡ (m.view).books
    → HasSteppedUnseen shape (label_effect n.view node value) n o → HasStepped shape (link_effect o.view s t node) o found z → found ≡ 0
    → HasUsed (λ r. r ≡ s) m z
used_won shape m n o z s t node value found rest same stored made won =
    let here = label_books shape n o node value (rests_same m n rest same) stored in
    let before = ap (λ (b : Book). book_with_label value b) (same_book m n same) in
    let after = the_book o.view (book_with_label value (book_of n.view)) here in
    let still = rests_by o.view (book_with_label value (book_of n.view)) here (ap (λ (b : Book). b.flight) before ∙ rest.free) in record {
      spots = s ∷ [];
      label = 0;
      books = link_won shape o z s t node found made won still ∙ ap (λ (b : Book). book_with_node s b ∷ []) (after ∙ before);
      on = λ j r at. only s r j at;
    }

pub used_then : (On : Spot → Type 0) (m n o : PassValue) → HasUsed On m n → HasUsed On n o → HasUsed On m o
used_then On m n o a b =
    let same : book_of n.view ≡ with_nodes a.spots a.label (book_of m.view) = the_book n.view (with_nodes a.spots a.label (book_of m.view)) a.books in record {
      spots = a.spots ++ b.spots;
      label = b.label;
      books = b.books ∙ (ap (λ (c : Book). with_nodes b.spots b.label c ∷ []) same
          ∙ ap (λ (us : List Spot). record (book_of m.view) { used = us; label = b.label } ∷ []) (append_assoc (book_of m.view).used a.spots b.spots));
      on = λ j s at. elim (at_either a.spots b.spots j s at) [
        | inl h ↦ a.on j s h.1
        | inr h ↦ b.on h.0 s h.2
      ];
    }

pub used_by : (P Q : Spot → Type 0) (m n : PassValue) → ((s : Spot) → P s → Q s) → HasUsed P m n → HasUsed Q m n
used_by P Q m n more a = record { spots = a.spots; label = a.label; books = a.books; on = λ j s at. more s (a.on j s at) }

-- Where no node was left.
pub stuck_by : (shape : ShapeValue) (P Q : Spot → Type 0) (l m n : PassValue) → ((s : Spot) → P s → Q s) → KeepsSeen l m → LacksNode shape P m n
    → LacksNode shape Q l n
stuck_by shape P Q l m n more went a = record {
  full = a.full;
  apart = a.apart;
  at = a.at;
  on = more a.at a.on;
  slot = a.slot;
  reaches = a.reaches;
  word = a.word;
  value = a.value;
  since = (let e = went.looks in let f = a.since in omega (arith, e, f));
  other = a.other;
}

-- what is answered at last: where none was left, that is so since an earlier time too
pub stuck_or : {T : Type 0} (shape : ShapeValue) (P Q : Spot → Type 0) (l m n : PassValue) (Good : T → Type 0) (r : Option T) → ((s : Spot) → P s → Q s) → KeepsSeen l m
    → MatchOption r (LacksNode shape P m n) Good → MatchOption r (LacksNode shape Q l n) Good
stuck_or shape P Q l m n Good None more went a = stuck_by shape P Q l m n more went a
stuck_or shape P Q l m n Good (Some answer) more went a = a

pub one_book : (p : Pass) (b : Book) → p.books ≡ b ∷ [] → p.books ≡ book_of p ∷ []
one_book p b one = one ∙ ap (λ (c : Book). c ∷ []) (sym (the_book p b one))

-- Nodes were made for spots that are Q, too.
pub made_by : {T : Type 0} (log : LogValue) (P Q : Spot → Type 0) (Means : Pass → T → Type 0) (m n : PassValue) (k l : ℕ) (r : Option T)
    → ((s : Spot) → P s → Q s) → HasMadeNodes log P Means m n k l r → HasMadeNodes log Q Means m n k l r
made_by log P Q Means m n k l r more a = record {
  of = a.of;
  rest = a.rest;
  strides = a.strides;
  used = used_by P Q m n more a.used;
  answer = stuck_or log.shape P Q m m n (Means n.view) r more (strides_none m) a.answer;
  begins = a.begins;
  loads = a.loads;
}

-- none was left, whatever an answer would have meant
pub made_none : {T U : Type 0} (log : LogValue) (P Q : Spot → Type 0) (Means : Pass → T → Type 0) (Other : Pass → U → Type 0) (m n : PassValue) (k l : ℕ)
    → ((s : Spot) → P s → Q s) → HasMadeNodes log P Means m n k l None → HasMadeNodes log Q Other m n k l None
made_none log P Q Means Other m n k l more a = record {
  of = a.of;
  rest = a.rest;
  strides = a.strides;
  used = used_by P Q m n more a.used;
  answer = stuck_by log.shape P Q m m n more (strides_none m) a.answer;
  begins = a.begins;
  loads = a.loads;
}

-- after others were made for such spots
pub made_then : {T : Type 0} (log : LogValue) (Q : Spot → Type 0) (Means : Pass → T → Type 0) (m n o : PassValue) (k l i : ℕ) (r : Option T) → KeepsSeen m n
    → HasUsed Q m n → CountsLoads m n k l → HasMadeNodes log Q Means n o l i r → HasMadeNodes log Q Means m o k i r
made_then log Q Means m n o k l i r went used loads a = record {
  of = a.of;
  rest = a.rest;
  strides = strides_then m n o went a.strides;
  used = used_then Q m n o used a.used;
  answer = stuck_or log.shape Q Q m n o (Means o.view) r (λ s on. on) went a.answer;
  begins = a.begins;
  loads = (let more = a.loads in omega (arith, loads, more));
}

-- the pass is at rest after nodes were used
pub rests_used : (On : Spot → Type 0) (m n : PassValue) → Rests m.view → HasUsed On m n → Rests n.view
rests_used On m n rest used = rests_by n.view (with_nodes used.spots used.label (book_of m.view)) used.books rest.free
