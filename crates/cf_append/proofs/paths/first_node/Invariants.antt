use Rattle.std.proofs.Common.{◌%◌}
use Rattle.cf_shape.specs.Places.Slot.{root}
use Rattle.cf_append.specs.Paths.{spot_of}
use Rattle.cf_append.proofs.paths.first_node.Given as goal

abbrev pub ghost-take_child : goal.ghost-take_child
ghost-take_child g a = (spot_of a._at.0, root a._at.0.lane (a._at.0.front % 16))
