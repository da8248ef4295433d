use Rattle.std.proofs.Common.{◌∙◌, Ok, ap, refl}
use Rattle.cf_setup.specs.Setups.{SetupValue}
use Rattle.cf_handles.specs.Named.{IsWidth}
use Rattle.cf_handles.proofs.Called.{if_lent, if_not_lent, nothing_told, told}
use Rattle.cf_handles.proofs.logs.confluo_width.Goals as goal

pub returns-in_default : goal.returns-in_default
returns-in_default c = nothing_told (IsWidth) c.args.log.now.seat.held _ c.args.width.now c.number.result c.in_default.ensures.value (if_not_lent c.get_mut.result c.in_default.is c.get_mut.follows.holds-at-none) c.number.ensures

pub returns : goal.returns
returns c =
    told IsWidth c.args.log.now.seat.held _ c.in-Some.log.now c.in-Some.log.now (Ok c.width.result) c.args.width.now c.width.result 0 c.in-Some.ensures.value
    (if_lent c.get_mut.result c.in-Some.log c.in-Some.is (c.get_mut.follows.holds c.in-Some.log.now)) (refl, c.width.ensures ∙ ap (λ (s : SetupValue). s.width) c.setup.ensures) refl refl
