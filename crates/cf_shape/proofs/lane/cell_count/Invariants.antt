use Rattle.std.proofs.Common.{◌≡◌, ◌+◌, drop}
use Rattle.cf_shape.specs.Uses.{cell_count}
use Rattle.cf_shape.proofs.lane.cell_count.Given as goal

abbrev pub invariant-loop-lane : goal.invariant-loop-lane
invariant-loop-lane l = l.count + cell_count (drop l.lane-index l.lanes) ≡ cell_count l.lanes
