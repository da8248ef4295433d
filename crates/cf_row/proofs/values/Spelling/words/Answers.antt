use Rattle.std.proofs.Common.{take, ap, sym, ◌∙◌}
use Rattle.cf_row.specs.Words.{values_words}
use Rattle.cf_row.specs.Kept.{words_in}
use Rattle.cf_row.proofs.Kept.{kept_words}
use Rattle.cf_row.proofs.values.Spelling.words.Goals as goal

pub returns : goal.returns
returns c =
    c.as_slice.ensures
    ∙ (sym (kept_words (take c.self.inside.count c.self.inside.lens) (words_in c.self.inside.words) c.self.invariant.0)
    ∙ ap values_words c.self.view_is)
