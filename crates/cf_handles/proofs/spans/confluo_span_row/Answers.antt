use Rattle.std.proofs.Common.{Err, Ok, ap, refl}
use Rattle.cf_store.specs.Spans.{ShowsSpanRow}
use Rattle.cf_handles.specs.Codes.{row_code}
use Rattle.cf_handles.specs.declared.code.Code.TheVariants as codes
use Rattle.cf_handles.specs.Calls.{IsCoded}
use Rattle.cf_handles.proofs.Called.{by_handle, if_lent, if_not_lent, nothing_by}
use Rattle.cf_handles.proofs.spans.confluo_span_row.Goals as goal

pub returns-in_default : goal.returns-in_default
returns-in_default c =
    (Err codes.Nothing, nothing_by (λ m n. IsCoded row_code (ShowsSpanRow c.args.offset m n c.args.values.now c.args.values.now)) c.args.span.now.seat.held _ c.in_default.ensures.value (if_not_lent c.get_mut.result c.in_default.is c.get_mut.follows.holds-at-none), refl, c.number.ensures, refl, refl)

pub returns-in-Ok : goal.returns-in-Ok
returns-in-Ok c = (
  Ok c.in-Ok.shown,
  by_handle (λ m n. IsCoded row_code (ShowsSpanRow c.args.offset m n c.args.values.now c.show_row.new.out)) c.args.span.now.seat.held _ c.in-Some.span.now c.show_row.new.self (Ok c.in-Ok.shown) c.in-Some.ensures.value
      (if_lent c.get_mut.result c.in-Some.span c.in-Some.is (c.get_mut.follows.holds c.show_row.new.self)) (Ok c.in-Ok.shown, c.in-Ok.ensures, refl),
  tt,
  refl,
  refl,
  refl,
)

pub returns-in-Err : goal.returns-in-Err
returns-in-Err c = (
  Err c.of_row.result,
  by_handle (λ m n. IsCoded row_code (ShowsSpanRow c.args.offset m n c.args.values.now c.show_row.new.out)) c.args.span.now.seat.held _ c.in-Some.span.now c.show_row.new.self (Err c.of_row.result) c.in-Some.ensures.value
      (if_lent c.get_mut.result c.in-Some.span c.in-Some.is (c.get_mut.follows.holds c.show_row.new.self)) (Err c.in-Err.refusal, c.in-Err.ensures, ap Err c.of_row.ensures),
  c.in-Err.ensures.1,
  c.number-in-Err.ensures,
  refl,
  refl,
)
