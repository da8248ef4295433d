-- Child words by their places, and loads of them.
use Rattle.std.proofs.Common.{◌≡◌, ℕ, ◌+◌, ◌*◌, ◌<◌, zero, suc, List, [], ◌∷◌, length, set, get_or, Option, Some, None, MatchOption, slice_get, refl, arith, ap, ap₂, sym, ◌∙◌, subst}
use Rattle.std.proofs.lemmas.Option.{slice_get_read}
use Rattle.cf_shape.specs.Places.{Slot, place, IsReal}
use Rattle.cf_shape.specs.Places.Slot.{root, body}
use Rattle.cf_law.specs.Words.{Spot, spot}
use Rattle.cf_law.specs.Passes.{Pass}
use Rattle.cf_law.specs.Steps.{Reaches, IsChild, pass_with_child}
use Rattle.cf_law.specs.Steps.Act.{load_child}
use Rattle.cf_law.specs.Steps.Step.{loads_child}
use Rattle.cf_law.specs.Readers.{IsBounded}
use Rattle.cf_law.specs.Lawful.{World}
use Rattle.cf_law.specs.Events.{IsEvent, word_at}
use Rattle.cf_law.specs.Events.WorldEvent.{acts}
use Rattle.cf_law.specs.Shapes.{layout}
use Rattle.cf_law.proofs.Readers.{bounded}
use Rattle.cf_core.specs.Worlds.{WorldValue, IsLawfulWorld, IsLivePass, NoRootAt, IsChildOf, NoneBelow, IsChildAt, NoChildAt, IsNode, world_of}
use Rattle.cf_core.proofs.Making.{does_step, word_there, live_one}
use Rattle.cf_core.proofs.Inverse.{acts_of, child_of}

-- an item that was read
pub item_is : {A : Type 0} (xs ys : List A) (i : ℕ) (x : A) → ys ≡ xs → i < length ys → x ≡ get_or ys i x → slice_get xs i ≡ Some x
item_is {A = A} xs ys i x same lt is = ap (λ (zs : List A). slice_get zs i) (sym same) ∙ slice_get_read ys (length ys) i x refl lt is

-- places
pub place_root_at : (h : WorldValue) (l d : ℕ) → place (layout h.shape).sizes (root l d) ≡ place (layout h.shape).sizes (root l 0) + d
unfolding place
place_root_at h l d = omega arith

pub place_body_at : (h : WorldValue) (n d : ℕ) → place (layout h.shape).sizes (body n (suc d)) ≡ place (layout h.shape).sizes (body n 1) + d
unfolding place
place_body_at h n d = omega arith

-- what a live pass knows is in range
pub bounds : (h : WorldValue) (k : ℕ) (p : Pass) → IsLawfulWorld h → IsLivePass h k p → IsBounded (layout h.shape) p
bounds h k p is live = bounded (layout h.shape) is.law.base p is.law.stands.law (is.law.stands.knows k p live.0)

pub node_is : (h : WorldValue) (k i : ℕ) (p : Pass) (x : Spot × ℕ) → IsLawfulWorld h → IsLivePass h k p → slice_get p.known i ≡ Some x → IsNode h x
node_is h k i p x is live at = let b = (bounds h k p is live).known i x.1 x.0 at in (b.0, b.1)

some_writer : (n w m : ℕ) → n < w * m → 0 < w
some_writer n zero m lt = absurd (omega arith)
some_writer n (suc w) m lt = omega arith

below_reaches : (p : Pass) (l d i n : ℕ) (q : List ℕ) → 0 < length q → slice_get p.known i ≡ Some (spot l q, n) → d < 16 → Reaches p l (d ∷ q) (body n (suc d))
below_reaches p l d i n [] some at low = absurd (omega arith)
below_reaches p l d i n (e ∷ q) some at low = (n, i, at, low, refl)

pub below_found : (h : WorldValue) (k at i d : ℕ) (p : Pass) (x : Spot × ℕ) → IsLawfulWorld h → IsLivePass h k p → slice_get p.known i ≡ Some x
    → IsChildOf h x at d → IsChildAt h p at (spot (x.0).lane (d ∷ (x.0).path))
below_found h k at i d p x is live known found =
    let b = (bounds h k p is live).known i x.1 x.0 known in
    let w = some_writer x.1 h.shape.writers h.shape.nodes b.0 in (
      body x.1 (suc d),
      record { reaches = below_reaches p (x.0).lane d i x.1 (x.0).path b.2 known found.0; real = (b.0, (let low = found.0 in omega arith)); inner = found.1 },
      found.2,
    )

reached_none : (h : WorldValue) (p : Pass) (at l : ℕ) (q : List ℕ) (t : Slot) → NoRootAt h at → NoneBelow h p at → Reaches p l q t
    → IsReal (layout h.shape).sizes t → length q < (layout h.shape).levels l → place (layout h.shape).sizes t ≡ at → ⊥
reached_none h p at l [] t roots below reaches real inner same = reaches
reached_none h p at l (d ∷ []) t roots below reaches real inner same =
    let r : IsReal (layout h.shape).sizes (root l d) = subst (IsReal (layout h.shape).sizes) reaches real in
    roots l d (r.0, r.1, ap (place (layout h.shape).sizes) (sym reaches) ∙ same)
reached_none h p at l (d ∷ (e ∷ q)) t roots below reaches real inner same =
    below (spot l (e ∷ q), reaches.0) d (reaches.1, reaches.2, (reaches.3, inner, ap (place (layout h.shape).sizes) (sym reaches.4) ∙ same))

pub none_found : (h : WorldValue) (p : Pass) (at : ℕ) → NoRootAt h at → NoneBelow h p at → NoChildAt h p at
none_found h p at roots below s found = reached_none h p at s.lane s.path found.0 roots below (found.1).reaches (found.1).real (found.1).inner found.2

pub child_there : (h : WorldValue) (p : Pass) (at : ℕ) (s : Spot) → IsLawfulWorld h → IsChildAt h p at s → at < length h.words
child_there h p at s is found = subst (λ (n : ℕ). n < length h.words) found.2 (word_there h found.0 is (found.1).real)

-- Loads of child words.
pub child_does : (h : WorldValue) (k at found : ℕ) (p after : Pass) (s : Spot) → IsLivePass h k p → IsChildAt h p at s → found ≡ get_or h.words at 0
    → after ≡ pass_with_child at s p found
    → IsEvent (layout h.shape) (world_of h) k (acts (load_child at)) (record { words = set h.words at found; passes = set h.passes k after })
child_does h k at found p after s live child v is =
    let sh = layout h.shape in
    let t = child.0 in
    let word : found ≡ word_at sh h.words t = v ∙ ap (λ (n : ℕ). get_or h.words n 0) (sym child.2) in
    subst (λ (n : ℕ). IsEvent sh (world_of h) k (acts (load_child n)) (record { words = set h.words at found; passes = set h.passes k after })) child.2
    (does_step sh (world_of h) k p (load_child (place sh.sizes t)) t (λ n. n) (λ n es. pass_with_child (place sh.sizes t) s p n) at found after live
    (loads_child s t child.1) (sym child.2) word
    (is ∙ ap₂ (λ (a b : ℕ). pass_with_child a s p b) (sym child.2) word))

pub child_none : (h : WorldValue) (k at : ℕ) (p : Pass) (y : World) → IsLivePass h k p → NoChildAt h p at
    → IsEvent (layout h.shape) (world_of h) k (acts (load_child at)) y → ⊥
child_none h k at p y live none does =
    let A = acts_of (layout h.shape) (world_of h) k (load_child at) y does in
    let r = child_of (layout h.shape) A.pass at A.slot A.change A.after A.step in
    let same = live_one h k A.pass p A.live live in
    none r.0 (r.1, subst (λ (q : Pass). IsChild (layout h.shape) q r.0 r.1) same r.2, r.3)

-- an option that says one thing says what follows
pub option_says : (P Q : Type 0) (F G : ℕ → Type 0) (o : Option ℕ) → MatchOption o P F → (P → Q) → ((d : ℕ) → F d → G d) → MatchOption o Q G
option_says P Q F G None says none some = none says
option_says P Q F G (Some d) says none some = some d says
