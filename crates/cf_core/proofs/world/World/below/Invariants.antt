use Rattle.std.proofs.Common.{◌≡◌, ◌<◌, ℕ, Some, slice_get}
use Rattle.cf_law.specs.Words.{Spot}
use Rattle.cf_core.specs.Worlds.{IsChildOf}
use Rattle.cf_core.proofs.world.World.below.Given as goal

abbrev pub invariant-loop-known : goal.invariant-loop-known
invariant-loop-known l = (i d : ℕ) (x : Spot × ℕ) → i < l.known-index → slice_get l.fn.pass.known i ≡ Some x → IsChildOf l.fn.self x l.place d → ⊥
