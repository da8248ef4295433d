use Rattle.std.proofs.Common.{◌≡◌, ◌∙◌, ◌<◌, List, length, ap, arith, rules}
use Rattle.cf_row.specs.declared.row.Entry.{Entry}
use Rattle.cf_plain.specs.Asks.{rows_in, row_at}
use Rattle.cf_report.proofs.Bare.{log_long, log_num}
use Rattle.cf_report.proofs.tags.Tags.num_at.Goals as goal

pub index-requires : goal.index-requires
index-requires c =
    let nums = c.self.inside.nums in
    let long : nums.len ≡ length nums.items = search rules in
    let log = log_long nums.items c.self.inside.writers.items c.self.invariant in
    let same = ap (λ (es : List Entry). length es) c.self.view_is in
    let low = c.requires in
    omega (arith, long, log, same, low)

pub returns : goal.returns
returns c =
    let nums = c.self.inside.nums in
    let writers = c.self.inside.writers in
    let place = c.args.place in
    let log = log_long nums.items writers.items c.self.invariant in
    let same = ap (λ (es : List Entry). length es) c.self.view_is in
    let low = c.requires in
    c.index.ensures
    ∙ (log_num nums.items writers.items place c.index.result.now c.self.invariant (omega (arith, log, same, low))
    ∙ ap (λ (es : List Entry). (row_at (rows_in es) place).num) c.self.view_is)
