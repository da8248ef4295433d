use Rattle.std.proofs.Common.{◌≡◌, ◌<◌, ℕ, Some, slice_get}
use Rattle.cf_law.specs.Passes.{Book}
use Rattle.cf_pass.specs.Books.{IsFreeIn}
use Rattle.cf_pass.proofs.pass.PassState.free.Given as goal

abbrev pub invariant-loop-place : goal.invariant-loop-place
invariant-loop-place l = (i : ℕ) (b : Book) → i < l.place → slice_get l.fn.self.books i ≡ Some b → IsFreeIn l.nodes b l.node → ⊥
