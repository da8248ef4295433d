use Rattle.std.proofs.Common.{◌≡◌, ◌<◌, ℕ, length, take, get_or}
use Rattle.cf_row.specs.declared.schema.TheConstants.{MOST_ATTRS}
use Rattle.cf_row.specs.Words.{word_count}
use Rattle.cf_query.proofs.selection.places_of.Given as goal

abbrev pub invariant-loop-place : goal.invariant-loop-place
invariant-loop-place l = record {
  long : length l.places ≡ MOST_ATTRS;
  word : l.word ≡ word_count (take l.place l.attrs);
  filled : (k : ℕ) → k < l.place → get_or l.places k 0 ≡ word_count (take k l.attrs);
}
