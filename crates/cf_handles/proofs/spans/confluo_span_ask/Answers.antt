use Rattle.cf_store.specs.Spans.{AsksSpanAt}
use Rattle.cf_handles.specs.Codes.{ask_code}
use Rattle.cf_handles.specs.Calls.{IsCoded}
use Rattle.cf_handles.proofs.Called.{if_lent, if_not_lent, nothing_told, told_coded}
use Rattle.cf_handles.proofs.spans.confluo_span_ask.Goals as goal

pub returns-in_default : goal.returns-in_default
returns-in_default c = nothing_told (λ m n. IsCoded ask_code (AsksSpanAt c.args.question m n)) c.args.span.now.seat.held _ c.args.head.now c.number.result c.in_default.ensures.value (if_not_lent c.get_mut.result c.in_default.is c.get_mut.follows.holds-at-none) c.number.ensures

pub returns : goal.returns
returns c =
    told_coded ask_code (AsksSpanAt c.args.question) c.args.span.now.seat.held _ c.in-Some.span.now c.ask.new.self c.ask.result c.args.head.now c.show_head.new.head
    c.show_head.result c.in-Some.ensures.value (if_lent c.get_mut.result c.in-Some.span c.in-Some.is (c.get_mut.follows.holds c.ask.new.self)) c.ask.ensures c.show_head.ensures.number c.show_head.ensures.head
