use Rattle.std.proofs.Common.{◌∙◌, Err, Ok, ap, refl}
use Rattle.cf_store.specs.Spans.{TellsSpanGroups}
use Rattle.cf_handles.specs.Codes.{code_number, lane_code}
use Rattle.cf_handles.specs.Calls.{IsCoded}
use Rattle.cf_handles.proofs.Called.{if_lent, if_not_lent, nothing_told, told_coded}
use Rattle.cf_handles.proofs.spans.confluo_span_groups.Goals as goal

pub returns-in_default : goal.returns-in_default
returns-in_default c = nothing_told (λ m n. IsCoded lane_code (TellsSpanGroups c.args.lane m n)) c.args.span.now.seat.held _ c.args.head.now c.number.result c.in_default.ensures.value (if_not_lent c.get_mut.result c.in_default.is c.get_mut.follows.holds-at-none) c.number.ensures

pub returns-in-Ok : goal.returns-in-Ok
returns-in-Ok c =
    told_coded lane_code (TellsSpanGroups c.args.lane) c.args.span.now.seat.held _ c.in-Some.span.now c.groups.new.self (Ok c.in-Ok.found) c.args.head.now c.in-Ok.found 0
    c.in-Some.ensures.value (if_lent c.get_mut.result c.in-Some.span c.in-Some.is (c.get_mut.follows.holds c.groups.new.self)) c.in-Ok.ensures refl refl

pub returns-in-Err : goal.returns-in-Err
returns-in-Err c =
    told_coded lane_code (TellsSpanGroups c.args.lane) c.args.span.now.seat.held _ c.in-Some.span.now c.groups.new.self (Err c.in-Err.refusal) c.args.head.now
    c.args.head.now c.number-in-Err.result c.in-Some.ensures.value (if_lent c.get_mut.result c.in-Some.span c.in-Some.is (c.get_mut.follows.holds c.groups.new.self)) c.in-Err.ensures
    (c.number-in-Err.ensures ∙ ap code_number c.of_lane.ensures) refl
