-- What is seen after the read tail was loaded or moved.
use Rattle.std.proofs.Common.{◌≡◌, ℕ, ◌+◌, ◌==◌, ◌<◌, ◌≤◌, max, inl, inr, cond, suc, List, [], length, take, length-take-le, Bool, None, false, refl, ap, subst, ◌∙◌, arith}
use Rattle.std.specs.Bool.{nat_lt}
use Rattle.std.proofs.lemmas.Bool.{cases_lt, cases_Bool}
use Rattle.std.proofs.lemmas.Bool.Decides.{nat_tests}
use Rattle.cf_row.specs.declared.row.Entry.{Entry}
use Rattle.cf_shape.specs.Lanes.{ShapeValue}
use Rattle.cf_shape.specs.Places.Slot.{tail}
use Rattle.cf_law.specs.Passes.{Pass}
use Rattle.cf_law.specs.Steps.{pass_that_sees}
use Rattle.cf_law.specs.Shapes.{layout}
use Rattle.cf_law.specs.Readers.{StepTells}
use Rattle.cf_table.specs.Effects.{tail_effect, advance_effect, IsLawfulStep}
use Rattle.cf_table.specs.Rule.{SeatView, TellsSome, given_advance}

abbrev pub grown : ℕ → List Entry → Pass → Bool → Pass
grown n es p b = cond b (record p { seen = take n es; cursor = None }) p

pub sees_length : (n : ℕ) (es : List Entry) (p : Pass) → n ≤ length es → length (pass_that_sees n es p).seen ≡ max (length p.seen) n
sees_length n es p le = elim (cases_lt (length p.seen) n) [
  | inl lt ↦
      let t : nat_lt (length p.seen) n ≡ Rattle.std.proofs.Common.true = grind (arith, nat_tests) in
      ap (λ (b : Bool). length (grown n es p b).seen) t ∙ (let e : length (take n es) ≡ n = length-take-le n es le in omega (arith, e))
  | inr ge ↦
      let t : nat_lt (length p.seen) n ≡ false = grind (arith, nat_tests) in
      ap (λ (b : Bool). length (grown n es p b).seen) t ∙ (omega arith)
]

-- after a load of the read tail just as much is seen
pub tail_seen : (shape : ShapeValue) (p q : Pass) (asked : Bool) (found : ℕ) → StepTells (layout shape) p (tail 1) (tail_effect p asked).after found found q
    → length q.seen ≡ found
tail_seen shape p q asked found told =
    let long : length told.entries ≡ found = told.long refl in
    let ahead = told.tells.ahead 1 (omega arith) refl in
    ap (λ (r : Pass). length r.seen) told.is ∙ (sees_length found told.entries p (omega arith) ∙ omega arith)

pub advance_seen : (shape : ShapeValue) (p q : Pass) (t found : ℕ) → t ≤ length p.seen
    → StepTells (layout shape) p (tail 1) (advance_effect p t).after found (cond (found == t) (suc t) found) q → length q.seen ≡ max (length p.seen) (t + 1)
advance_seen shape p q t found le told =
    let long : length told.entries ≡ cond (found == t) (suc t) found = told.long refl in
    let ahead = told.tells.ahead 1 (omega arith) refl in
    let far : suc t ≤ cond (found == t) (suc t) found = elim (cases_Bool (found == t)) [
      | inl e ↦ (let f : cond (found == t) (suc t) found ≡ suc t = ap (λ (b : Bool). cond b (suc t) found) e in omega (arith, f))
      | inr e ↦ (let f : cond (found == t) (suc t) found ≡ found = ap (λ (b : Bool). cond b (suc t) found) e in let ne : found ≡ t
          → ⊥ = grind (arith, nat_tests) in omega (arith, f, ne))
    ] in
    ap (λ (r : Pass). length r.seen) told.is ∙ (sees_length (suc t) told.entries p (omega (arith, long, far)) ∙ omega arith)

-- what a lawful advance asks
pub advance_asks : (sh : Rattle.cf_law.specs.Words.Layout) (p : Pass) (t : ℕ) (s : Rattle.cf_shape.specs.Places.Slot) (f : ℕ → ℕ)
    (g : ℕ → List Entry → Pass) → Rattle.cf_law.specs.Steps.Step sh p (Rattle.cf_law.specs.Steps.Act.advance t) s f g → (t ≤ length p.seen)
    × (t < sh.sizes.tickets)
advance_asks sh p t s f g (Rattle.cf_law.specs.Steps.Step.advances u i le lt last word value) = (le, lt)

-- what a pass that moved the read tail keeps of its counts
pub advance_kept : (shape : ShapeValue) (t covered r : ℕ) (m n : SeatView) (p : Pass) → m.0 ≡ p
    → IsLawfulStep shape p (Rattle.cf_law.specs.Steps.Act.advance t) (advance_effect p t) → TellsSome (given_advance shape p t) m n
    → covered ≡ length m.0.seen → r ≡ max covered (t + 1) → m.0.spent ≡ false → (n.1 ≡ []) × (r ≡ length n.0.seen) × (n.0.spent ≡ false)
advance_kept shape t covered r m n p is may some counted result live =
    let told = subst
    (λ (q : Pass). StepTells (layout shape) q (tail 1) (advance_effect p t).after some.found
    (cond (some.found == t) (suc t) some.found) n.0) is some.all.told in
    let more = advance_seen shape p n.0 t some.found
    (advance_asks (layout shape) p t (tail 1) (advance_effect p t).change (advance_effect p t).after may).0 told in
    let same : length m.0.seen ≡ length p.seen = ap (λ (q : Pass). length q.seen) is in
    (some.all.bare, omega (arith, more, same), some.all.lives ∙ live)
