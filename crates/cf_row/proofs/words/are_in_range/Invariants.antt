use Rattle.std.proofs.Common.{◌≡◌, ◌+◌, drop}
use Rattle.cf_row.specs.Words.{word_count, words_fit}
use Rattle.cf_row.proofs.words.are_in_range.Given as goal

abbrev pub invariant-loop-attr : goal.invariant-loop-attr
invariant-loop-attr l = record {
  at : l.at + word_count (drop l.attr-index l.attrs) ≡ word_count l.attrs;
  fits : words_fit (drop l.attr-index l.attrs) (drop l.at l.words) ≡ words_fit l.attrs l.words;
}
