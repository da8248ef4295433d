use Rattle.std.proofs.Common.{◌≡◌, drop}
use Rattle.cf_law.specs.Words.{has}
use Rattle.cf_core.proofs.cells.is_in.Given as goal

abbrev pub invariant-loop-linked : goal.invariant-loop-linked
invariant-loop-linked l = has (drop l.linked-index l.lanes) l.lane ≡ has l.lanes l.lane
