use Rattle.std.proofs.Common.{◌≡◌, ◌+◌, drop}
use Rattle.cf_row.specs.Words.{word_count}
use Rattle.cf_row.specs.Kept.{attrs_of}
use Rattle.cf_row.proofs.values.count_lens.Given as goal

abbrev pub invariant-loop-len : goal.invariant-loop-len
invariant-loop-len l = l.count + word_count (attrs_of (drop l.len-index l.lens)) ≡ word_count (attrs_of l.lens)
