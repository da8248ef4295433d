use Rattle.std.proofs.Common.{◌≡◌, take}
use Rattle.cf_shape.proofs.lane.copy_lanes.Given as goal

abbrev pub invariant-loop-lane : goal.invariant-loop-lane
invariant-loop-lane l = l.copied.items ≡ take l.lane-index l.lanes
