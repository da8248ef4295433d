use Rattle.std.proofs.Common.{◌≡◌, ◌∙◌, List, length, sym, ap, rules}
use Rattle.cf_row.specs.declared.row.Entry.{Entry}
use Rattle.cf_report.proofs.Bare.{log_long}
use Rattle.cf_report.proofs.tags.Tags.len.Goals as goal

pub returns : goal.returns
returns c =
    let nums = c.self.inside.nums in
    let long : c.len.result ≡ length nums.items = search rules in
    long ∙ (sym (log_long nums.items c.self.inside.writers.items c.self.invariant) ∙ ap (λ (es : List Entry). length es) c.self.view_is)
