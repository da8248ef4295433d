use Rattle.std.proofs.Common.{◌≡◌, ◌∙◌, ◌<◌, List, length, get_or, sym, ap, subst, arith, rules}
use Rattle.cf_row.specs.declared.row.Entry.{Entry}
use Rattle.cf_report.proofs.Bare.{log_long, log_writer}
use Rattle.cf_report.proofs.tags.Tags.writer_at.Goals as goal

pub index-requires : goal.index-requires
index-requires c =
    let writers = c.self.inside.writers in
    let long : writers.len ≡ length writers.items = search rules in
    let log = log_long c.self.inside.nums.items writers.items c.self.invariant in
    let same = ap (λ (es : List Entry). length es) c.self.view_is in
    let pair = c.self.invariant in
    let low = c.requires in
    omega (arith, long, log, same, pair, low)

pub returns : goal.returns
returns c = λ d.
    let nums = c.self.inside.nums in
    let writers = c.self.inside.writers in
    let place = c.args.place in
    let log = log_long nums.items writers.items c.self.invariant in
    let same = ap (λ (es : List Entry). length es) c.self.view_is in
    let low = c.requires in
    subst (λ (es : List Entry). (get_or es place d).writer ≡ c.index.result.now) c.self.view_is
    (log_writer nums.items writers.items place c.index.result.now c.self.invariant (omega (arith, log, same, low)) d ∙ sym c.index.ensures)
