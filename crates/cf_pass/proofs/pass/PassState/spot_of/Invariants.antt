use Rattle.std.proofs.Common.{◌≡◌, ◌<◌, ℕ, Some, slice_get}
use Rattle.cf_law.specs.Words.{Spot}
use Rattle.cf_pass.proofs.pass.PassState.spot_of.Given as goal

abbrev pub invariant-loop-known : goal.invariant-loop-known
invariant-loop-known l = (i : ℕ) (s : Spot) → i < l.known-index → slice_get l.fn.self.known i ≡ Some (s, l.node) → ⊥
