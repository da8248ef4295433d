use Rattle.std.proofs.Common.{◌<◌, ℕ}
use Rattle.cf_core.specs.Worlds.{IsRootAt}
use Rattle.cf_core.proofs.world.World.root_at.Given as goal

abbrev pub invariant-loop-lane : goal.invariant-loop-lane
invariant-loop-lane l = (i d : ℕ) → i < l.lane → IsRootAt l.fn.self l.place i d → ⊥
