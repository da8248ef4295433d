use Rattle.std.proofs.Common.{◌≡◌, map, take}
use Rattle.cf_plain.specs.Groups.{as_group, pair_of}
use Rattle.cf_plain.proofs.keys.read_keys.Given as goal

abbrev pub invariant-loop-group : goal.invariant-loop-group
invariant-loop-group l = take l.group-index l.groups ≡ map as_group (map pair_of (take l.group-index l.groups))
