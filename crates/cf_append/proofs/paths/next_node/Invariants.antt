use Rattle.std.proofs.Common.{suc, ◌%◌}
use Rattle.cf_shape.specs.Places.Slot.{body}
use Rattle.cf_append.specs.Paths.{spot_of}
use Rattle.cf_append.proofs.paths.next_node.Given as goal

abbrev pub ghost-take_child : goal.ghost-take_child
ghost-take_child g a = (spot_of a._at.0, body a._at.1 (suc (a._at.0.front % 16)))
