use Rattle.std.proofs.Common.{◌≡◌, ◌∙◌, ◌<◌, ◌^◌, Some, ap, sym, rules}
use Rattle.cf_shape.specs.declared.lane.Lane.{Lane}
use Rattle.cf_shape.specs.Lanes.{lane_at}
use Rattle.cf_plain.specs.Asks.{row_at, rows_in}
use Rattle.cf_query.proofs.Entries.{amount_is, amount_low}
use Rattle.cf_query.proofs.apart.amount_at.Goals as goal

pub overflow_cast-result : goal.overflow_cast-result
overflow_cast-result g c =
    let shape = c.args.shape.now in
    let m = g.P.Pass.held c.args.pass.now in
    let row = row_at (rows_in (m.view).seen) c.args.offset in
    let measure : (lane_at shape c.args.lane).measure ≡ Some c.in-Some.attr = ap (λ (l : Lane). l.measure) (sym c.lane_of.ensures.lane) ∙ c.in-Some.is in
    let is = amount_is shape c.args.lane row c.in-Some.attr c.number.result measure c.number.ensures.number in
    let low : c.number.result < 2 ^ 32 =
    amount_low shape c.args.lane m c.args.offset c.number.result c.lane_of.ensures.lawful c.requires.at.exists c.requires.fit c.requires.at.entry.within is in
    search (rules, low)
