-- Loads of heads and of cells.
use Rattle.std.proofs.Common.{◌≡◌, ℕ, ◌+◌, ◌<◌, suc, ◌∷◌, length, set, get_or, arith, ap, ap₂, ◌∙◌, subst}
use Rattle.std.proofs.lemmas.Nat.{mul-add-lt}
use Rattle.cf_row.specs.Words.{word_count}
use Rattle.cf_shape.specs.Places.{place, IsReal, head_slot, place_of}
use Rattle.cf_shape.specs.Places.WordName.{head as head_word, version as version_word}
use Rattle.cf_shape.specs.Places.Slot.{cell}
use Rattle.cf_shape.specs.Uses.{ticket_words, cells_before}
use Rattle.cf_shape.proofs.Used.{version_at, version_is, before_fits}
use Rattle.cf_law.specs.Words.{Spot, spot}
use Rattle.cf_law.specs.Passes.{Pass}
use Rattle.cf_law.specs.Steps.{Knows, pass_with_head, pass_with_cell}
use Rattle.cf_law.specs.Steps.Act.{load_head, load_cell}
use Rattle.cf_law.specs.Steps.Step.{loads_head, loads_cell}
use Rattle.cf_law.specs.Lawful.{World}
use Rattle.cf_law.specs.Events.{IsEvent, word_at}
use Rattle.cf_law.specs.Events.WorldEvent.{acts}
use Rattle.cf_law.specs.Shapes.{layout}
use Rattle.cf_law.proofs.Decides.{known_unique}
use Rattle.cf_core.specs.Worlds.{WorldValue, IsLawfulWorld, IsLivePass, IsNode, IsLeaf, HasCell, world_of}
use Rattle.cf_pass.specs.Books.{NoneKnown, MayRead}
use Rattle.cf_core.proofs.Making.{does_step, word_there, live_one}
use Rattle.cf_core.proofs.Children.{node_is}
use Rattle.cf_core.proofs.Inverse.{acts_of, head_load_of, cell_load_of}

-- Heads.
pub known_is : (h : WorldValue) (k node : ℕ) (p : Pass) (s : Spot) → IsLawfulWorld h → IsLivePass h k p → Knows p s node → IsNode h (s, node)
known_is h k node p s is live known = node_is h k known.0 p (s, node) is live known.1

pub head_real : (h : WorldValue) (k node d w : ℕ) (p : Pass) (s : Spot) → IsLawfulWorld h → IsLivePass h k p → Knows p s node → d < 16 → w < h.shape.writers
    → IsReal (layout h.shape).sizes (head_slot (layout h.shape).sizes node d w)
head_real h k node d w p s is live known low wl = ((known_is h k node p s is live known).0, omega (arith, mul-add-lt d h.shape.writers w 16 low wl))

pub head_there : (h : WorldValue) (k node d w : ℕ) (p : Pass) (s : Spot) → IsLawfulWorld h → IsLivePass h k p → Knows p s node → d < 16 → w < h.shape.writers
    → place_of h.shape (head_word node d w) < length h.words
head_there h k node d w p s is live known low wl = word_there h (head_slot (layout h.shape).sizes node d w) is (head_real h k node d w p s is live known low wl)

pub head_does : (h : WorldValue) (k at node d w found : ℕ) (p after : Pass) (s leaf : Spot) → IsLivePass h k p → Knows p s node → IsLeaf h s → d < 16
    → w < h.shape.writers → at ≡ place_of h.shape (head_word node d w) → found ≡ get_or h.words at 0
    → leaf ≡ spot s.lane (d ∷ s.path) → after ≡ pass_with_head at w leaf p found
    → IsEvent (layout h.shape) (world_of h) k (acts (load_head node d w)) (record { words = set h.words at found; passes = set h.passes k after })
head_does h k at node d w found p after s leaf live known is_leaf low wl e v below is =
    let sh = layout h.shape in
    let t = head_slot sh.sizes node d w in
    let word : found ≡ word_at sh h.words t = v ∙ ap (λ (n : ℕ). get_or h.words n 0) e in
    does_step sh (world_of h) k p (load_head node d w) t (λ n. n)
    (λ n es. pass_with_head (place sh.sizes t) w (spot s.lane (d ∷ s.path)) p n) at found after live
    (loads_head node d w s.lane s.path known is_leaf low wl) e word
    (is ∙ (ap (λ (r : Spot). pass_with_head at w r p found) below ∙ ap₂ (λ (a b : ℕ). pass_with_head a w (spot s.lane (d ∷ s.path)) p b) e word))

pub head_only : (h : WorldValue) (k node d w : ℕ) (p : Pass) (s : Spot) (y : World) → IsLawfulWorld h → IsLivePass h k p → Knows p s node
    → IsEvent (layout h.shape) (world_of h) k (acts (load_head node d w)) y → IsLeaf h s × (d < 16) × (w < h.shape.writers)
head_only h k node d w p s y is live known does =
    let sh = layout h.shape in
    let A = acts_of sh (world_of h) k (load_head node d w) y does in
    let r = head_load_of sh A.pass node d w A.slot A.change A.after A.step in
    let same = live_one h k A.pass p A.live live in
    let there : Knows p (spot r.lane r.above) node = subst (λ (q : Pass). Knows q (spot r.lane r.above) node) same r.known in
    let one : spot r.lane r.above ≡ s = known_unique sh is.law.base p (spot r.lane r.above) s node (is.law.stands.knows k p live.0) there known in
    (subst (IsLeaf h) one r.leaf, r.low, r.writer)

pub head_none : (h : WorldValue) (k node d w : ℕ) (p : Pass) (y : World) → IsLivePass h k p → NoneKnown p node
    → IsEvent (layout h.shape) (world_of h) k (acts (load_head node d w)) y → ⊥
head_none h k node d w p y live none does =
    let sh = layout h.shape in
    let A = acts_of sh (world_of h) k (load_head node d w) y does in
    let r = head_load_of sh A.pass node d w A.slot A.change A.after A.step in
    let same = live_one h k A.pass p A.live live in
    none (spot r.lane r.above) (subst (λ (q : Pass). Knows q (spot r.lane r.above) node) same r.known)

-- Cells.
abbrev cell_at : WorldValue → ℕ → ℕ → ℕ
cell_at h lane i = word_count h.shape.schema + 1 + cells_before h.shape lane + i

cell_within : (h : WorldValue) (lane i : ℕ) → HasCell h.shape lane i → suc (cell_at h lane i) < ticket_words h.shape
cell_within h lane i has = let fits = before_fits h.shape.lanes lane has.0 in let low = has.1 in omega (arith, fits, low)

pub cell_there : (h : WorldValue) (offset lane i : ℕ) → IsLawfulWorld h → offset < h.shape.capacity → HasCell h.shape lane i
    → place_of h.shape (version_word offset lane i) < length h.words
cell_there h offset lane i is low has = word_there h (cell offset (cell_at h lane i)) is (low, (let w = cell_within h lane i has in omega (arith, w)))

pub cell_load_does : (h : WorldValue) (k at offset lane i found : ℕ) (p after : Pass) → IsLivePass h k p → offset < h.shape.capacity → HasCell h.shape lane i
    → MayRead p offset lane → at ≡ place_of h.shape (version_word offset lane i) → found ≡ get_or h.words at 0
    → after ≡ pass_with_cell at offset lane i p found
    → IsEvent (layout h.shape) (world_of h) k (acts (load_cell offset lane i)) (record { words = set h.words at found; passes = set h.passes k after })
cell_load_does h k at offset lane i found p after live low has may e v is =
    let sh = layout h.shape in
    let j = cell_at h lane i in
    let t = cell offset j in
    let word : found ≡ word_at sh h.words t = v ∙ ap (λ (n : ℕ). get_or h.words n 0) e in
    does_step sh (world_of h) k p (load_cell offset lane i) t (λ n. n) (λ n es. pass_with_cell (place sh.sizes t) offset lane i p n) at found after live
    (loads_cell offset lane i j low (version_at h.shape lane i has.0 has.1) (cell_within h lane i has) may) e word
    (is ∙ ap₂ (λ (a b : ℕ). pass_with_cell a offset lane i p b) e word)

pub cell_load_only : (h : WorldValue) (k offset lane i : ℕ) (p : Pass) (y : World) → IsLivePass h k p
    → IsEvent (layout h.shape) (world_of h) k (acts (load_cell offset lane i)) y → (offset < h.shape.capacity) × HasCell h.shape lane i × MayRead p offset lane
cell_load_only h k offset lane i p y live does =
    let sh = layout h.shape in
    let A = acts_of sh (world_of h) k (load_cell offset lane i) y does in
    let r = cell_load_of sh A.pass offset lane i A.slot A.change A.after A.step in
    let same = live_one h k A.pass p A.live live in
    let v = version_is h.shape r.word lane i r.within r.is_version in
    (r.low, (v.0, v.1), subst (λ (q : Pass). MayRead q offset lane) same r.may)
