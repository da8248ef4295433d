use Rattle.std.proofs.Common.{◌≡◌, ◌+◌, drop}
use Rattle.cf_row.specs.Words.{word_count}
use Rattle.cf_row.proofs.words.count_words.Given as goal

abbrev pub invariant-loop-attr : goal.invariant-loop-attr
invariant-loop-attr l = l.count + word_count (drop l.attr-index l.attrs) ≡ word_count l.attrs
