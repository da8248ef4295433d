use Rattle.std.proofs.Common.{◌≡◌, ◌<◌, ℕ, Some, slice_get}
use Rattle.cf_law.specs.Passes.{Book}
use Rattle.cf_pass.specs.Books.{Owns}
use Rattle.cf_pass.proofs.pass.PassState.owns.Given as goal

abbrev pub invariant-loop-book : goal.invariant-loop-book
invariant-loop-book l = (i : ℕ) (b : Book) → i < l.book-index → slice_get l.fn.self.books i ≡ Some b → Owns b l.offset → ⊥
