use Rattle.std.proofs.Common.{◌≡◌, map}
use Rattle.std.specs.List.{range_with_len}
use Rattle.cf_plain.specs.Groups.{pair_of}
use Rattle.cf_store.specs.Merges.{group_at}
use Rattle.cf_store.proofs.merges.groups_of.Given as goal

abbrev pub invariant-loop-k : goal.invariant-loop-k
invariant-loop-k l = map pair_of (l.groups).items ≡ map (group_at l.words) (range_with_len 0 l.k)
