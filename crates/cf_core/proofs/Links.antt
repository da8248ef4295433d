-- Labels and links.
use Rattle.std.proofs.Common.{◌≡◌, ℕ, ◌+◌, ◌*◌, ◌/◌, ◌%◌, ◌<◌, ◌≤◌, List, length, set, get_or, Option, Some, None, slice_get, arith, ap, ap₂, sym, ◌∙◌, subst}
use Rattle.std.proofs.lemmas.Nat.{mul-add-lt}
use Rattle.cf_row.specs.declared.schema.Attr.{Attr}
use Rattle.cf_row.specs.declared.schema.Kind.{Kind}
use Rattle.cf_row.specs.declared.schema.Kind.TheVariants.{U8, U16, U32, U64, Bytes}
use Rattle.cf_shape.specs.declared.lane.Key.{Key}
use Rattle.cf_shape.specs.declared.lane.Key.TheVariants as keys
use Rattle.cf_shape.specs.Lanes.{ShapeValue, lane_at}
use Rattle.cf_shape.specs.Nodes.{levels_of, nibbles_of_kind, nibbles_of_attr, nibbles_of_key}
use Rattle.cf_shape.specs.Places.{Slot, place, place_of}
use Rattle.cf_shape.specs.Places.WordName.{label as label_word}
use Rattle.cf_shape.specs.Places.Slot.{body}
use Rattle.cf_law.specs.Words.{Spot}
use Rattle.cf_law.specs.Passes.{Book, Pass}
use Rattle.cf_law.specs.Steps.{Act, Holds, IsChild, pass_with_book, book_with_label, pass_with_link, child_word, label_of, free_node}
use Rattle.cf_law.specs.Steps.Act.{label, link}
use Rattle.cf_law.specs.Steps.Step.{labels, links}
use Rattle.cf_law.specs.Lawful.{World}
use Rattle.cf_law.specs.Events.{IsEvent, word_at}
use Rattle.cf_law.specs.Events.WorldEvent.{acts}
use Rattle.cf_law.specs.Shapes.{layout}
use Rattle.cf_law.proofs.Decides.{child_unique, free_unique}
use Rattle.cf_core.specs.Worlds.{WorldValue, IsLawfulWorld, IsLivePass, IsChildAt, NoChildAt, IsLabelOf, NoLabel, world_of}
use Rattle.cf_pass.specs.Books.{IsFree, NoneFree}
use Rattle.cf_core.proofs.Making.{does_step, word_there, live_one}
use Rattle.cf_core.proofs.Children.{bounds}
use Rattle.cf_core.proofs.Inverse.{acts_of, labels_of, Links, links_of}

-- keys have 16 nibbles at most
kind_few : (kind : Kind) → nibbles_of_kind kind ≤ 16
kind_few U8 = omega arith
kind_few U16 = omega arith
kind_few U32 = omega arith
kind_few U64 = omega arith
kind_few (Bytes k) = omega arith

attr_few : (attr : Option Attr) → nibbles_of_attr attr ≤ 16
attr_few None = omega arith
attr_few (Some attr) = kind_few attr.kind

key_few : (attrs : List Attr) (key : Key) → nibbles_of_key attrs key ≤ 16
key_few attrs (keys.Attr attr) = attr_few (slice_get attrs attr)
key_few attrs keys.Bucket = omega arith
key_few attrs (keys.BucketBy attr) = omega arith

pub levels_few : (s : ShapeValue) (l : ℕ) → levels_of s l ≤ 16
levels_few s l = key_few s.schema (lane_at s l).key

pub child_low : (h : WorldValue) (p : Pass) (s : Spot) (t : Slot) → IsChild (layout h.shape) p s t → length s.path < 32
child_low h p s t child = let inner = child.inner in omega (arith, inner, levels_few h.shape s.lane)

pub label_child : (h : WorldValue) (p : Pass) (value : ℕ) (s : Spot) → IsLabelOf h p value s → IsChildAt h p (value / 32) s × (length s.path ≡ value % 32)
label_child h p value s named =
    let low = child_low h p s named.0 named.1 in
    let e = named.2 in
    ((named.0, named.1, omega (arith, e, low)), omega (arith, e, low))

pub child_one : (h : WorldValue) (k at : ℕ) (p : Pass) (s r : Spot) → IsLawfulWorld h → IsLivePass h k p → IsChildAt h p at s → IsChildAt h p at r → s ≡ r
child_one h k at p s r is live a b = (child_unique (layout h.shape) is.law.base p s r a.0 b.0 (is.law.stands.knows k p live.0) a.1 b.1 (a.2 ∙ sym b.2)).0

pub label_none_at : (h : WorldValue) (p : Pass) (value : ℕ) → NoChildAt h p (value / 32) → NoLabel h p value
label_none_at h p value none s named = none s (label_child h p value s named).0

pub label_none_level : (h : WorldValue) (k value : ℕ) (p : Pass) (s : Spot) → IsLawfulWorld h → IsLivePass h k p → IsChildAt h p (value / 32) s
    → (length s.path ≡ value % 32 → ⊥) → NoLabel h p value
label_none_level h k value p s is live child ne r named =
    let c = label_child h p value r named in
    ne (ap (λ (x : Spot). length x.path) (child_one h k (value / 32) p s r is live child c.0) ∙ c.1)

-- Labels.
pub free_within : (h : WorldValue) (k node j : ℕ) (p : Pass) (b : Book) → IsLawfulWorld h → IsLivePass h k p → IsFree h.shape.nodes p node j b
    → node < h.shape.writers * h.shape.nodes
free_within h k node j p b is live free =
    let w = (bounds h k p is live).writer j b free.0 in
    let lt = mul-add-lt b.writer h.shape.nodes (length b.used) h.shape.writers w (free.1).0 in
    omega (arith, lt, (free.1).1)

pub label_there : (h : WorldValue) (k node j : ℕ) (p : Pass) (b : Book) → IsLawfulWorld h → IsLivePass h k p → IsFree h.shape.nodes p node j b
    → place_of h.shape (label_word node) < length h.words
label_there h k node j p b is live free = word_there h (body node 0) is (free_within h k node j p b is live free, omega arith)

pub label_does : (h : WorldValue) (k at node value j : ℕ) (p after : Pass) (b : Book) (s : Spot) → IsLivePass h k p → IsFree h.shape.nodes p node j b
    → IsLabelOf h p value s → at ≡ place_of h.shape (label_word node) → after ≡ pass_with_book j (book_with_label value b) p
    → IsEvent (layout h.shape) (world_of h) k (acts (label node value)) (record { words = set h.words at value; passes = set h.passes k after })
label_does h k at node value j p after b s live free named e is =
    let sh = layout h.shape in
    let t = named.0 in
    let own : free_node sh b ≡ node = (free.1).1 in
    let act : label (free_node sh b) (label_of sh s t) ≡ label node value = ap₂ label own named.2 in
    subst (λ (a : Act). IsEvent sh (world_of h) k (acts a) (record { words = set h.words at value; passes = set h.passes k after })) act
    (does_step sh (world_of h) k p (label (free_node sh b) (label_of sh s t)) (body (free_node sh b) 0) (λ n. label_of sh s t)
    (λ n es. pass_with_book j (book_with_label (label_of sh s t) b) p) at value after live
    (labels j b s t free.0 (free.1).0 named.1) (e ∙ ap (λ (n : ℕ). place sh.sizes (body n 0)) (sym own)) (sym named.2)
    (is ∙ ap (λ (v : ℕ). pass_with_book j (book_with_label v b) p) (sym named.2)))

pub label_free : (h : WorldValue) (k node value : ℕ) (p : Pass) (y : World) → IsLivePass h k p → NoneFree h.shape.nodes p node
    → IsEvent (layout h.shape) (world_of h) k (acts (label node value)) y → ⊥
label_free h k node value p y live none does =
    let sh = layout h.shape in
    let A = acts_of sh (world_of h) k (label node value) y does in
    let r = labels_of sh A.pass node value A.slot A.change A.after A.step in
    let same = live_one h k A.pass p A.live live in
    none r.place r.book (subst (λ (q : Pass). Holds q r.place r.book) same r.held, (r.room, r.own))

pub label_named : (h : WorldValue) (k node value : ℕ) (p : Pass) (y : World) → IsLivePass h k p → NoLabel h p value
    → IsEvent (layout h.shape) (world_of h) k (acts (label node value)) y → ⊥
label_named h k node value p y live none does =
    let sh = layout h.shape in
    let A = acts_of sh (world_of h) k (label node value) y does in
    let r = labels_of sh A.pass node value A.slot A.change A.after A.step in
    let same = live_one h k A.pass p A.live live in
    none r.spot (r.slot, subst (λ (q : Pass). IsChild sh q r.spot r.slot) same r.child, r.value)

pub link_does : (h : WorldValue) (k at node found left j : ℕ) (p after : Pass) (b : Book) (s : Spot) → IsLivePass h k p → IsFree h.shape.nodes p node j b
    → IsChildAt h p at s → b.label ≡ 32 * at + length s.path → found ≡ get_or h.words at 0 → left ≡ child_word node found
    → after ≡ pass_with_link j b s node p found
    → IsEvent (layout h.shape) (world_of h) k (acts (link at node)) (record { words = set h.words at left; passes = set h.passes k after })
link_does h k at node found left j p after b s live free child stored v change is =
    let sh = layout h.shape in
    let t = child.0 in
    let own : free_node sh b ≡ node = (free.1).1 in
    let word : found ≡ word_at sh h.words t = v ∙ ap (λ (n : ℕ). get_or h.words n 0) (sym child.2) in
    let act : link (place sh.sizes t) (free_node sh b) ≡ link at node = ap₂ link child.2 own in
    let same_label : b.label ≡ label_of sh s t = (let e = child.2 in omega (arith, stored, e)) in
    subst (λ (a : Act). IsEvent sh (world_of h) k (acts a) (record { words = set h.words at left; passes = set h.passes k after })) act
    (does_step sh (world_of h) k p (link (place sh.sizes t) (free_node sh b)) t (λ n. child_word (free_node sh b) n)
    (λ n es. pass_with_link j b s (free_node sh b) p n) at left after live
    (links j b s t free.0 (free.1).0 child.1 same_label) (sym child.2) (change ∙ ap₂ child_word (sym own) word)
    (is ∙ ap₂ (λ (m n : ℕ). pass_with_link j b s m p n) (sym own) word))

-- what a link asked for
links_there : (h : WorldValue) (k at node : ℕ) (p : Pass) (y : World) → IsLivePass h k p → IsEvent (layout h.shape) (world_of h) k (acts (link at node)) y
    → Links (layout h.shape) p at node
links_there h k at node p y live does =
    let sh = layout h.shape in
    let A = acts_of sh (world_of h) k (link at node) y does in
    subst (λ (q : Pass). Links sh q at node) (live_one h k A.pass p A.live live) (links_of sh A.pass at node A.slot A.change A.after A.step)

pub link_free : (h : WorldValue) (k at node : ℕ) (p : Pass) (y : World) → IsLivePass h k p → NoneFree h.shape.nodes p node
    → IsEvent (layout h.shape) (world_of h) k (acts (link at node)) y → ⊥
link_free h k at node p y live none does = let r = links_there h k at node p y live does in none r.book_at r.book (r.held, (r.room, r.own))

pub link_child : (h : WorldValue) (k at node : ℕ) (p : Pass) (y : World) → IsLivePass h k p → NoChildAt h p at
    → IsEvent (layout h.shape) (world_of h) k (acts (link at node)) y → ⊥
link_child h k at node p y live none does = let r = links_there h k at node p y live does in none r.spot (r.slot, r.child, r.stands)

pub link_label : (h : WorldValue) (k at node j : ℕ) (p : Pass) (b : Book) (s : Spot) (y : World) → IsLawfulWorld h → IsLivePass h k p
    → IsFree h.shape.nodes p node j b → IsChildAt h p at s → IsEvent (layout h.shape) (world_of h) k (acts (link at node)) y → b.label ≡ 32 * at + length s.path
link_label h k at node j p b s y is live free child does =
    let sh = layout h.shape in
    let r = links_there h k at node p y live does in
    let e = free_unique sh is.law.base h.passes k p r.book_at j r.book b is.law.stands live.0 r.held free.0 r.room (free.1).0 (r.own ∙ sym (free.1).1) in
    let books : r.book ≡ b = cc (r.held, ap (slice_get p.books) e, free.0) in
    let spots : r.spot ≡ s = child_one h k at p r.spot s is live (r.slot, r.child, r.stands) child in
    let stored = r.label in
    let at_is = r.stands in
    omega (arith, stored, at_is, ap (λ (c : Book). c.label) books, ap (λ (x : Spot). length x.path) spots)
