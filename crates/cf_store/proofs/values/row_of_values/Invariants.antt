use Rattle.std.proofs.Common.{◌≡◌, map, take}
use Rattle.cf_store.specs.Values.{value_of}
use Rattle.cf_store.proofs.values.row_of_values.Given as goal

abbrev pub invariant-loop-value : goal.invariant-loop-value
invariant-loop-value l = l.listed.items ≡ map value_of (take l.value-index l.values)
