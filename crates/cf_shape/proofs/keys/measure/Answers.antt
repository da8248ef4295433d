use Rattle.std.proofs.Common.{◌≡◌, ◌<◌, ◌^◌, ap, sym, ◌∙◌, rules, Some}
use Rattle.cf_row.specs.Times.{number_at}
use Rattle.cf_shape.specs.Lanes.{lane_at}
use Rattle.cf_shape.specs.declared.lane.Lane.{Lane}
use Rattle.cf_shape.proofs.Measured.{measure_low}
use Rattle.cf_shape.proofs.keys.measure.Goals as goal

pub overflow_cast-result : goal.overflow_cast-result
overflow_cast-result c =
    let is : (lane_at c.args.shape.now c.args.lane).measure ≡ Some c.in-Some.attr = ap (λ (l : Lane). l.measure) (sym c.lane.ensures.lane) ∙ c.in-Some.is in
    let low : number_at c.args.row.now c.in-Some.attr < 2 ^ 32 =
    rw is at (measure_low c.args.shape.now c.args.lane c.args.row.now c.lane.ensures.lawful c.requires.exists c.requires.fits) in
    let low' : c.number.result < 2 ^ 32 = rw c.number.ensures low in
    search (rules, low')
