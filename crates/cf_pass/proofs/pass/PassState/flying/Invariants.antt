use Rattle.std.proofs.Common.{◌≡◌, ◌<◌, ℕ, Some, slice_get}
use Rattle.cf_law.specs.Passes.{Flight, Book}
use Rattle.cf_pass.proofs.pass.PassState.flying.Given as goal

abbrev pub invariant-loop-place : goal.invariant-loop-place
invariant-loop-place l = (i : ℕ) (b : Book) (f : Flight) → i < l.place → slice_get l.fn.self.books i ≡ Some b → b.flight ≡ Some f → f.offset ≡ l.offset → ⊥
