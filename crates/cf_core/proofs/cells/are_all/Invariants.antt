use Rattle.std.proofs.Common.{◌≡◌, ℕ, ◌<◌, true}
use Rattle.cf_shape.specs.Lanes.{selected_by}
use Rattle.cf_law.specs.Words.{has}
use Rattle.cf_core.proofs.cells.are_all.Given as goal

abbrev pub invariant-loop-lane : goal.invariant-loop-lane
invariant-loop-lane l = (i : ℕ) → i < l.lane → selected_by l.fn.shape i l.fn.row ≡ true → has l.linked i ≡ true
