-- How an event is made.
use Rattle.std.proofs.Common.{◌≡◌, ℕ, ◌<◌, ◌≤◌, suc, List, length, set, get_or, true, refl, arith, ap, ap₂, sym, ◌∙◌, subst}
use Rattle.std.proofs.lemmas.Option.{slice_get_within}
use Rattle.cf_row.specs.declared.row.Entry.{Entry}
use Rattle.cf_shape.specs.Uses.{ticket_words}
use Rattle.cf_shape.specs.Places.{Slot, place, IsReal}
use Rattle.cf_shape.specs.Places.Slot.{tail, cell}
use Rattle.cf_shape.proofs.Slots.{place_within}
use Rattle.cf_law.specs.Words.{Layout}
use Rattle.cf_law.specs.Passes.{Pass}
use Rattle.cf_law.specs.Steps.{Act, Step, pass_with_look}
use Rattle.cf_law.specs.Steps.Act.{look_done, load_word}
use Rattle.cf_law.specs.Steps.Step.{looks_done, loads_word}
use Rattle.cf_law.specs.Lawful.{World, Lawful}
use Rattle.cf_law.specs.Events.{WorldEvent, IsEvent, IsLive, word_at, entries_spelled}
use Rattle.cf_law.specs.Events.WorldEvent.{acts}
use Rattle.cf_law.specs.Events.IsEvent.{steps}
use Rattle.cf_law.specs.Shapes.{layout}
use Rattle.cf_law.proofs.Shapes.{layout_law}
use Rattle.cf_law.proofs.Runs.{kept}
use Rattle.cf_core.specs.Worlds.{WorldValue, IsLawfulWorld, Answers, IsLivePass, world_of}
use Rattle.cf_core.proofs.Inverse.{acts_of, loads_of}

-- a step by the place, the value and the pass that it leaves
pub does_step : (sh : Layout) (x : World) (k : ℕ) (p : Pass) (a : Act) (t : Slot) (f : ℕ → ℕ) (g : ℕ → List Entry → Pass) (at value : ℕ) (after : Pass)
    → IsLive x k p → Step sh p a t f g → at ≡ place sh.sizes t → value ≡ f (word_at sh x.words t)
    → after ≡ g (word_at sh x.words t) (entries_spelled sh (set x.words at value) (word_at sh (set x.words at value) (tail 1)))
    → IsEvent sh x k (acts a) (record { words = set x.words at value; passes = set x.passes k after })
does_step sh x k p a t f g at value after live step e v h =
    let words : set x.words at value ≡ set x.words (place sh.sizes t) (f (word_at sh x.words t)) = ap₂ (set x.words) e v in
    let pass : after ≡ g (word_at sh x.words t)
    (entries_spelled sh (set x.words (place sh.sizes t) (f (word_at sh x.words t)))
    (word_at sh (set x.words (place sh.sizes t) (f (word_at sh x.words t))) (tail 1))) = h
    ∙ ap (λ (ws : List ℕ). g (word_at sh x.words t) (entries_spelled sh ws (word_at sh ws (tail 1)))) words in
    let same : ◌≡◌ {A = World} (record { words = set x.words at value; passes = set x.passes k after }) _ =
    ap₂ (λ (ws : List ℕ) (q : Pass). record { words = ws; passes = set x.passes k q }) words pass in
    subst (IsEvent sh x k (acts a)) (sym same) (steps p a t f g live step)

pub made_lawful : (h : WorldValue) (k : ℕ) (e : WorldEvent) (y : World) → IsLawfulWorld h → IsEvent (layout h.shape) (world_of h) k e y
    → Lawful (layout h.shape) y.words y.passes
made_lawful h k e y is does = kept (layout h.shape) (world_of h) k e y (layout_law h.shape is.shape) is.law does

-- the answers
abbrev pub with : WorldValue → List ℕ → List Pass → WorldValue
with h words passes = record { shape = h.shape; words = words; passes = passes }

pub made : (h new : WorldValue) (k : ℕ) (e : WorldEvent) (words : List ℕ) (passes : List Pass) → new ≡ with h words passes
    → IsEvent (layout h.shape) (world_of h) k e (record { words = words; passes = passes }) → Answers h k e new true
made h new k e words passes is does = subst (λ (n : WorldValue). Answers h k e n true) (sym is) (does, refl)

pub live_one : (h : WorldValue) (k : ℕ) (p q : Pass) → IsLivePass h k p → IsLivePass h k q → p ≡ q
live_one h k p q a b = cc (a.0, b.0)

pub word_there : (h : WorldValue) (t : Slot) → IsLawfulWorld h → IsReal (layout h.shape).sizes t → place (layout h.shape).sizes t < length h.words
word_there h t is real = let w = place_within (layout h.shape).sizes t real in let m = is.law.base in let size = is.law.stands.law.size in
    omega (arith, w, size, ap (length {A = ℕ}) is.law.spelled)

pub pass_there : (h : WorldValue) (k : ℕ) (p : Pass) → IsLivePass h k p → k < length h.passes
pass_there h k p live = slice_get_within h.passes k p live.0

-- Looks.
pub look_does : (h : WorldValue) (k offset at i found : ℕ) (p after : Pass) → IsLivePass h k p → offset < h.shape.capacity → suc i ≡ ticket_words h.shape
    → at ≡ place (layout h.shape).sizes (cell offset i) → found ≡ get_or h.words at 0 → after ≡ pass_with_look at found p
    → IsEvent (layout h.shape) (world_of h) k (acts (look_done offset)) (record { words = set h.words at found; passes = set h.passes k after })
look_does h k offset at i found p after live lt last e v is =
    let sh = layout h.shape in
    let word : found ≡ word_at sh h.words (cell offset i) = v ∙ ap (λ (n : ℕ). get_or h.words n 0) e in
    does_step sh (world_of h) k p (look_done offset) (cell offset i) (λ n. n) (λ n es. pass_with_look (place sh.sizes (cell offset i)) n p) at found after live
    (looks_done offset i lt last) e word
    (is ∙ ap₂ (λ (a b : ℕ). pass_with_look a b p) e word)

pub load_does : (h : WorldValue) (k offset at i found : ℕ) (p after : Pass) → IsLivePass h k p → offset < length p.seen → i < ticket_words h.shape
    → at ≡ place (layout h.shape).sizes (cell offset i) → found ≡ get_or h.words at 0 → after ≡ pass_with_look at found p
    → IsEvent (layout h.shape) (world_of h) k (acts (load_word offset i)) (record { words = set h.words at found; passes = set h.passes k after })
load_does h k offset at i found p after live seen lt e v is =
    let sh = layout h.shape in
    let word : found ≡ word_at sh h.words (cell offset i) = v ∙ ap (λ (n : ℕ). get_or h.words n 0) e in
    does_step sh (world_of h) k p (load_word offset i) (cell offset i) (λ n. n)
    (λ n es. pass_with_look (place sh.sizes (cell offset i)) n p) at found after live (loads_word offset i seen lt) e word
    (is ∙ ap₂ (λ (a b : ℕ). pass_with_look a b p) e word)

pub load_only : (h : WorldValue) (k offset i : ℕ) (p : Pass) (y : World) → IsLivePass h k p
    → IsEvent (layout h.shape) (world_of h) k (acts (load_word offset i)) y → (offset < length p.seen) × (i < ticket_words h.shape)
load_only h k offset i p y live does =
    let A = acts_of (layout h.shape) (world_of h) k (load_word offset i) y does in
    let r = loads_of (layout h.shape) A.pass offset i A.slot A.change A.after A.step in
    let same = live_one h k A.pass p A.live live in (subst (λ (q : Pass). offset < length q.seen) same r.0, r.1)
