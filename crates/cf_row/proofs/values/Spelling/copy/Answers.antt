use Rattle.std.proofs.Common.{◌≡◌, ◌≤◌, length, take, ap, sym, ◌∙◌, arith, rules}
use Rattle.cf_row.specs.declared.schema.TheConstants.{MOST_ATTRS}
use Rattle.cf_row.specs.Words.{values_words}
use Rattle.cf_row.specs.Kept.{words_in}
use Rattle.cf_row.proofs.Kept.{kept_words}
use Rattle.cf_row.proofs.values.Spelling.copy.Goals as goal

pub returns-in_err-words-clause-free : goal.returns-in_err-words-clause-free
returns-in_err-words-clause-free c few =
    let same : values_words c.args.self.now ≡ words_in c.self.inside.words = sym (ap values_words c.self.view_is)
    ∙ kept_words (take c.self.inside.count c.self.inside.lens) (words_in c.self.inside.words) c.self.invariant.0 in
    let short : length (words_in c.self.inside.words) ≤ MOST_ATTRS = omega (arith, ap length same, few) in
    search (rules, c.copy.ensures.free short)
