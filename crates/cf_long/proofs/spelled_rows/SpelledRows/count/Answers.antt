use Rattle.std.proofs.Common.{◌∙◌, ◌+◌, ◌/◌, ap, ap₂, length, sym}
use Rattle.cf_long.specs.SpelledRows.{KeptValue}
use Rattle.cf_long.proofs.SpelledRows.{count_are}
use Rattle.cf_long.proofs.spelled_rows.SpelledRows.count.Goals as goal

pub returns : goal.returns
returns c =
    let i = c.self.inside in
    ap₂ (λ n w. n / (w + 1)) (c.len.ensures ∙ i.words.ok.0) c.word_count.ensures.count
    ∙ (sym (count_are i.schema i.words.items c.self.invariant) ∙ ap (λ (k : KeptValue). length k.rows) c.self.view_is)
