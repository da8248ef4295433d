use Rattle.std.proofs.Common.{◌≡◌, ◌<◌, ℕ, Some, None, slice_get}
use Rattle.cf_law.specs.Passes.{Book}
use Rattle.cf_pass.proofs.pass.PassState.is_at_rest.Given as goal

abbrev pub invariant-loop-place : goal.invariant-loop-place
invariant-loop-place l = (i : ℕ) (b : Book) → i < l.place → slice_get l.fn.self.books i ≡ Some b → b.flight ≡ None
