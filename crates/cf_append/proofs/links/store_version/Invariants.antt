use Rattle.std.proofs.Common.{◌-◌, ◌/◌}
use Rattle.cf_shape.specs.Nodes.{levels_of}
use Rattle.cf_law.specs.Words.{spot}
use Rattle.cf_law.specs.Nibbles.{nibbles}
use Rattle.cf_append.proofs.links.store_version.Given as goal

abbrev pub ghost-own_head : goal.ghost-own_head
ghost-own_head g a = spot a._lane (nibbles (levels_of a.log.now.shape a._lane - 1) (a.key / 16))
