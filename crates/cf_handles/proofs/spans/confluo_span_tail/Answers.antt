use Rattle.std.proofs.Common.{Ok, refl}
use Rattle.cf_handles.specs.Spanned.{IsSpanTail}
use Rattle.cf_handles.proofs.Called.{if_lent, if_not_lent, nothing_told, told}
use Rattle.cf_handles.proofs.spans.confluo_span_tail.Goals as goal

pub returns-in_default : goal.returns-in_default
returns-in_default c = nothing_told (IsSpanTail) c.args.span.now.seat.held _ c.args.tail.now c.number.result c.in_default.ensures.value (if_not_lent c.get_mut.result c.in_default.is c.get_mut.follows.holds-at-none) c.number.ensures

pub returns : goal.returns
returns c =
    told IsSpanTail c.args.span.now.seat.held _ c.in-Some.span.now c.tail.new.self (Ok c.tail.result) c.args.tail.now c.tail.result 0 c.in-Some.ensures.value
    (if_lent c.get_mut.result c.in-Some.span c.in-Some.is (c.get_mut.follows.holds c.tail.new.self)) (c.tail.ensures.asks, c.tail.ensures.tail) refl refl
