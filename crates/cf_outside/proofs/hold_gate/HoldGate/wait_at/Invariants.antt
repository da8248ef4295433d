use Rattle.std.proofs.Common.{◌-◌, ◌≤◌}
use Rattle.cf_outside.proofs.hold_gate.HoldGate.wait_at.Given as goal

abbrev pub invariant-loop-turns : goal.invariant-loop-turns
invariant-loop-turns l = l.turns ≤ l.most

abbrev pub decreases-loop-turns : goal.decreases-loop-turns
decreases-loop-turns l = l.most - l.turns
