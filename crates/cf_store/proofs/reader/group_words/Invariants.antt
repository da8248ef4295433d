use Rattle.std.proofs.Common.{◌≡◌, map, take}
use Rattle.cf_plain.specs.Groups.{pair_of}
use Rattle.cf_store.specs.Asks.{groups_words}
use Rattle.cf_store.proofs.reader.group_words.Given as goal

abbrev pub invariant-loop-group : goal.invariant-loop-group
invariant-loop-group l = l.words.items ≡ groups_words (map pair_of (take l.group-index l.groups))
