use Rattle.std.proofs.Common.{◌≡◌, ◌/◌, ◌%◌, ◌==◌, ℕ, false, ◌∙◌}
use Rattle.cf_core.specs.Worlds.{IsChildAt, NoChildAt}
use Rattle.cf_core.proofs.Links.{label_none_at, label_none_level}
use Rattle.cf_core.proofs.world.World.is_label.Goals as goal

nat_ne : (a b : ℕ) → (a == b) ≡ false → a ≡ b → ⊥
nat_ne a b e h = cc (Rattle.std.proofs.lemmas.Bool.eq-eqb a b h, e)

pub returns-in_default-clause-none : goal.returns-in_default-clause-none
returns-in_default-clause-none c =
    let none : NoChildAt c.args.self.now c.args.pass.now (c.args.value / 32) = rw c.in_default.is at c.in_ok-spot.ensures in
    λ e. label_none_at c.args.self.now c.args.pass.now c.args.value none

pub returns-clause-none : goal.returns-clause-none
returns-clause-none c =
    let child : IsChildAt c.args.self.now c.args.pass.now (c.args.value / 32) c.in-Some.spot = rw c.in-Some.is at c.in_ok-spot.ensures in
    let level = c.level.ensures.level in
    λ e. label_none_level c.args.self.now c.args.number c.args.value c.args.pass.now c.in-Some.spot c.shape-held.ensures.lawful c.requires child
    (λ same. nat_ne c.level.result (c.args.value % 32) e (level ∙ same))
