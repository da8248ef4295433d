use Rattle.std.proofs.Common.{◌≡◌, map, take}
use Rattle.cf_shape.specs.Lanes.{has_by}
use Rattle.cf_watch.specs.Watched.{nothing_watched}
use Rattle.cf_rounds.proofs.lanes.none_kept.Given as goal

abbrev pub invariant-loop-lane : goal.invariant-loop-lane
invariant-loop-lane l = l.kept.items ≡ map (λ lane. nothing_watched (has_by lane.key)) (take l.lane-index l.lanes)
