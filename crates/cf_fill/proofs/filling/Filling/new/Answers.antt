use Rattle.std.proofs.Common.{refl}
use Rattle.cf_fill.proofs.Filled.{none_filled}
use Rattle.cf_fill.proofs.filling.Filling.new.Goals as goal

pub returns-clause-none : goal.returns-clause-none
returns-clause-none c =
    let open_is = c.in_ok-segments.ensures in
    none_filled (record { segments = c.in_ok-segments.segments; loader = c.in_ok-loader.loader; waiting = c.new-2.result.items; count = 0 }) c.args.plan.now
    open_is.holds open_is.one open_is.told c.in_ok-loader.ensures.fresh c.in_ok-loader.ensures.loading c.new-2.ensures.items refl
