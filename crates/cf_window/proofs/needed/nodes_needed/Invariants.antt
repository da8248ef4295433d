use Rattle.std.proofs.Common.{◌≡◌, ◌≤◌, ◌*◌}
use Rattle.cf_window.proofs.Holding.{counted}
use Rattle.cf_window.proofs.needed.nodes_needed.Given as goal

abbrev pub invariant-loop-lane : goal.invariant-loop-lane
invariant-loop-lane l = record {
  count : l.count ≡ counted l.fn.shape l.fn.row l.lane;
  few : l.count ≤ 255 * l.lane;
}
