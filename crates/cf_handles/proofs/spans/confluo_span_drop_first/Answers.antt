use Rattle.std.proofs.Common.{Err, Ok, refl}
use Rattle.cf_handles.specs.declared.code.Code.TheVariants as codes
use Rattle.cf_handles.specs.Spanned.{DropsTo}
use Rattle.cf_handles.proofs.Called.{by_handle, if_lent, if_not_lent, nothing_by}
use Rattle.cf_handles.proofs.spans.confluo_span_drop_first.Goals as goal

pub returns-in_default : goal.returns-in_default
returns-in_default c = (Err codes.Nothing, nothing_by DropsTo c.args.span.now.seat.held _ c.in_default.ensures.value (if_not_lent c.get_mut.result c.in_default.is c.get_mut.follows.holds-at-none), c.number.ensures)

pub returns-then-not-drop_first : goal.returns-then-not-drop_first
returns-then-not-drop_first c = (
  Err codes.OneLog,
  by_handle DropsTo c.args.span.now.seat.held _ c.in-Some.span.now c.drop_first.new.self (Err codes.OneLog) c.in-Some.ensures.value
      (if_lent c.get_mut.result c.in-Some.span c.in-Some.is (c.get_mut.follows.holds c.drop_first.new.self)) (c.if-not-drop_first.ensures, refl),
  c.number-then-not-drop_first.ensures,
)

pub returns : goal.returns
returns c = (
  Ok tt,
  by_handle DropsTo c.args.span.now.seat.held _ c.in-Some.span.now c.drop_first.new.self (Ok tt) c.in-Some.ensures.value
      (if_lent c.get_mut.result c.in-Some.span c.in-Some.is (c.get_mut.follows.holds c.drop_first.new.self)) c.if-not-drop_first.ensures,
  refl,
)
