use Rattle.std.proofs.Common.{◌≡◌, take, length, true}
use Rattle.cf_row.specs.declared.schema.TheConstants.{MOST_ATTRS}
use Rattle.cf_row.specs.Row.{values_fit}
use Rattle.cf_row.specs.Words.{values_words}
use Rattle.cf_row.specs.Kept.{attrs_of}
use Rattle.cf_row.proofs.values.Spelling.of.Given as goal

abbrev pub invariant-loop-place : goal.invariant-loop-place
invariant-loop-place l = record {
  long : length l.lens ≡ MOST_ATTRS;
  room : length l.words ≡ MOST_ATTRS;
  fit : values_fit (attrs_of (take l.place l.lens)) (take l.place l.values) ≡ true;
  end : l.at ≡ length (values_words (take l.place l.values));
  spelled : take l.at l.words ≡ values_words (take l.place l.values);
}
