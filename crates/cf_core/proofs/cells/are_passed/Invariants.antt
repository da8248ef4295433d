use Rattle.std.proofs.Common.{ℕ, ◌<◌, ◌≤◌}
use Rattle.cf_core.specs.Worlds.{IsPassed}
use Rattle.cf_core.proofs.cells.are_passed.Given as goal

abbrev pub invariant-loop-i : goal.invariant-loop-i
invariant-loop-i l = (j : ℕ) → l.from ≤ j → j < l.i → IsPassed l.fn.shape l.fn.row j
