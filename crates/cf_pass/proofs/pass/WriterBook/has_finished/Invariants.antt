use Rattle.std.proofs.Common.{◌≡◌, ◌<◌, ℕ, Some, slice_get}
use Rattle.cf_law.specs.Passes.{Own}
use Rattle.cf_pass.proofs.pass.WriterBook.has_finished.Given as goal

abbrev pub invariant-loop-ticket : goal.invariant-loop-ticket
invariant-loop-ticket l = (i : ℕ) (x : Own) → i < l.ticket-index → slice_get l.fn.self.mine i ≡ Some x → x.offset ≡ l.offset → ⊥
