use Rattle.std.proofs.Common.{◌≡◌, take, length}
use Rattle.cf_row.specs.Words.{values_words}
use Rattle.cf_row.proofs.words.put_list.Given as goal

abbrev pub invariant-loop-value : goal.invariant-loop-value
invariant-loop-value l =
    record { end : l.at ≡ length (values_words (take l.value-index l.values)); words : take l.at l.out ≡ values_words (take l.value-index l.values) }
