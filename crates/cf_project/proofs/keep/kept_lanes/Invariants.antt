use Rattle.std.proofs.Common.{◌≡◌, map, take}
use Rattle.cf_project.specs.Projected.{lane_kept}
use Rattle.cf_project.proofs.keep.kept_lanes.Given as goal

abbrev pub invariant-loop-lane : goal.invariant-loop-lane
invariant-loop-lane l = l.left.items ≡ map (lane_kept l.kept) (take l.lane-index l.lanes)
