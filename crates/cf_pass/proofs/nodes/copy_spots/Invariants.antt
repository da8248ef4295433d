use Rattle.std.proofs.Common.{◌≡◌, take}
use Rattle.cf_pass.proofs.nodes.copy_spots.Given as goal

abbrev pub invariant-loop-spot : goal.invariant-loop-spot
invariant-loop-spot l = l.copied.items ≡ take l.spot-index l.spots
