use Rattle.std.proofs.Common.{◌≡◌, take}
use Rattle.std.specs.List.{flat_map}
use Rattle.cf_store.specs.Asks.{mark_words}
use Rattle.cf_store.proofs.reader.mark_words.Given as goal

abbrev pub invariant-loop-mark : goal.invariant-loop-mark
invariant-loop-mark l = l.words.items ≡ flat_map mark_words (take l.mark-index l.marks)
