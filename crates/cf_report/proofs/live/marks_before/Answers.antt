use Rattle.std.proofs.Common.{◌∙◌, ◌<◌, sym, arith}
use Rattle.cf_report.proofs.Lives.{before_found}
use Rattle.cf_report.proofs.live.marks_before.Goals as goal

pub returns-then-earlier-place : goal.returns-then-earlier-place
returns-then-earlier-place c =
    let some : 0 < c.loop-place.place = omega arith in
    c.marks_in.ensures
    ∙ before_found c.args.earlier.now c.loop-place.place c.args.ask c.index-earlier-place.result c.index-earlier-place-then-earlier-place.result some
    c.loop-place.invariant.within c.index-earlier-place.is c.index-earlier-place-then-earlier-place.is c.if-earlier-place.true
    ∙ sym c.loop-place.invariant.same
