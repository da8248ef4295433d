-- Splits and joins.
use Rattle.std.proofs.Common.{◌≡◌, ℕ, ◌<◌, List, [], ◌∷◌, ◌++◌, length, set, Some, None, ap, ap₂, sym, ◌∙◌, subst}
use Rattle.std.proofs.lemmas.List.{set-append_left}
use Rattle.cf_law.specs.Passes.{Book, Pass}
use Rattle.cf_law.specs.Steps.{Holds, IsAtRest, without, new_pass, joined_pass, spent_pass}
use Rattle.cf_law.specs.Steps.Splits.{bare, hands}
use Rattle.cf_law.specs.Lawful.{World, Lawful}
use Rattle.cf_shape.specs.Lanes.{ShapeValue, IsShape}
use Rattle.cf_law.proofs.Runs.{opening_lawful}
use Rattle.cf_law.specs.Events.{IsEvent, opening}
use Rattle.cf_law.specs.Events.WorldEvent.{splits, joins}
use Rattle.cf_law.specs.Events.IsEvent.{parts, meets}
use Rattle.cf_law.specs.Shapes.{layout}
use Rattle.cf_core.specs.Worlds.{WorldValue, IsLawfulWorld, IsLivePass, world_of}

pub bare_does : (h : WorldValue) (k : ℕ) (p left right : Pass) → IsLivePass h k p → left ≡ p → right ≡ new_pass [] p.seen
    → IsEvent (layout h.shape) (world_of h) k (splits None) (record { words = h.words; passes = set h.passes k left ++ right ∷ [] })
bare_does h k p left right live l r =
    let same : ◌≡◌ {A = World} (record { words = h.words; passes = set h.passes k p ++ new_pass [] p.seen ∷ [] })
    (record { words = h.words; passes = set h.passes k left ++ right ∷ [] }) =
    ap₂ (λ (a b : Pass). record { words = h.words; passes = set h.passes k a ++ b ∷ [] }) (sym l) (sym r) in
    subst (IsEvent (layout h.shape) (world_of h) k (splits None)) same (parts p p (new_pass [] p.seen) None live bare)

pub hands_does : (h : WorldValue) (k j w : ℕ) (p left right : Pass) (b : Book) → IsLivePass h k p → Holds p j b → b.writer ≡ w
    → left ≡ record p { books = without j p.books } → right ≡ new_pass (b ∷ []) p.seen
    → IsEvent (layout h.shape) (world_of h) k (splits (Some w)) (record { words = h.words; passes = set h.passes k left ++ right ∷ [] })
hands_does h k j w p left right b live held writer l r =
    let same : ◌≡◌ {A = World} (record { words = h.words; passes = set h.passes k (record p { books = without j p.books }) ++ new_pass (b ∷ []) p.seen ∷ [] })
    (record { words = h.words; passes = set h.passes k left ++ right ∷ [] }) =
    ap₂ (λ (a c : Pass). record { words = h.words; passes = set h.passes k a ++ c ∷ [] }) (sym l) (sym r) in
    subst (λ (v : ℕ). IsEvent (layout h.shape) (world_of h) k (splits (Some v)) (record { words = h.words; passes = set h.passes k left ++ right ∷ [] })) writer
    (subst (IsEvent (layout h.shape) (world_of h) k (splits (Some b.writer))) same
    (parts p (record p { books = without j p.books }) (new_pass (b ∷ []) p.seen) (Some b.writer) live (hands j b held)))

pub joins_does : (h : WorldValue) (k j : ℕ) (p q one other : Pass) → IsLivePass h k p → IsLivePass h j q → (j ≡ k → ⊥) → IsAtRest q → one ≡ joined_pass p q
    → other ≡ spent_pass
    → IsEvent (layout h.shape) (world_of h) k (joins j) (record { words = h.words; passes = set (set h.passes k one) j other })
joins_does h k j p q one other live there ne rests a b =
    let same : ◌≡◌ {A = World} (record { words = h.words; passes = set (set h.passes k (joined_pass p q)) j spent_pass })
    (record { words = h.words; passes = set (set h.passes k one) j other }) =
    ap₂ (λ (x y : Pass). record { words = h.words; passes = set (set h.passes k x) j y }) (sym a) (sym b) in
    subst (IsEvent (layout h.shape) (world_of h) k (joins j)) same (meets p q j live there ne rests)

-- a pass that is added behind
pub pushed : (passes : List Pass) (k : ℕ) (left right : Pass) → k < length passes → set (passes ++ right ∷ []) k left ≡ set passes k left ++ right ∷ []
pushed passes k left right lt = set-append_left passes (right ∷ []) k left lt

pub part_lawful : (inside now : WorldValue) (items : List Pass) (k : ℕ) (left right : Pass) → IsLawfulWorld inside → inside ≡ now
    → items ≡ inside.passes ++ right ∷ [] → k < length now.passes → Lawful (layout now.shape) now.words (set now.passes k left ++ right ∷ [])
    → IsLawfulWorld (record { shape = inside.shape; words = inside.words; passes = set items k left })
part_lawful inside now items k left right is same added lt law = record {
  shape = is.shape;
  law = (let old : Lawful (layout inside.shape) inside.words (set inside.passes k left ++ right ∷ []) = subst
      (λ (h : WorldValue). Lawful (layout h.shape) h.words (set h.passes k left ++ right ∷ [])) (sym same) law in
      let low : k < length inside.passes = subst (λ (h : WorldValue). k < length h.passes) (sym same) lt in
      subst (Lawful (layout inside.shape) inside.words) (sym (ap (λ (ps : List Pass). set ps k left) added ∙ pushed inside.passes k left right low)) old);
}

pub part_is : (inside now : WorldValue) (items : List Pass) (k : ℕ) (left right : Pass) → inside ≡ now → items ≡ inside.passes ++ right ∷ []
    → k < length now.passes
    → ◌≡◌ {A = WorldValue} (record { shape = inside.shape; words = inside.words; passes = set items k left })
    (record { shape = now.shape; words = now.words; passes = set now.passes k left ++ right ∷ [] })
part_is inside now items k left right same added lt =
    let low : k < length inside.passes = subst (λ (h : WorldValue). k < length h.passes) (sym same) lt in
    ap (λ (ps : List Pass). record { shape = inside.shape; words = inside.words; passes = ps })
    (ap (λ (ps : List Pass). set ps k left) added ∙ pushed inside.passes k left right low)
    ∙ ap (λ (h : WorldValue). record { shape = h.shape; words = h.words; passes = set h.passes k left ++ right ∷ [] }) same

-- the opening
pub opening_held : (s : ShapeValue) (words : List ℕ) (passes : List Pass) → IsShape s → words ≡ (opening (layout s)).words
    → passes ≡ (opening (layout s)).passes → IsLawfulWorld (record { shape = s; words = words; passes = passes })
opening_held s words passes is w p = record {
  shape = is;
  law = subst (λ (ws : List ℕ). Lawful (layout s) ws passes) (sym w) (subst (Lawful (layout s) (opening (layout s)).words) (sym p) (opening_lawful (layout s)));
}
