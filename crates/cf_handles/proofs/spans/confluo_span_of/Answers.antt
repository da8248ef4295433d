use Rattle.std.proofs.Common.{◌∙◌, Err, Ok, Option, Some, ap, refl, subst, sym}
use Rattle.cf_store.specs.Spans.{SpanValue}
use Rattle.cf_store.specs.declared.held.Reader.{Reader}
use Rattle.cf_handles.specs.declared.code.Code.TheVariants as codes
use Rattle.cf_handles.specs.Spanned.{SpansTo}
use Rattle.cf_handles.proofs.spans.confluo_span_of.Goals as goal

pub returns-in_default : goal.returns-in_default
returns-in_default c = (
  Err codes.Nothing,
  subst (λ (x : Option Reader). SpansTo c.args.span.now.seat.held c.args.span.now.seat.held x c.take.new.self.seat.held (Err codes.Nothing)) (sym c.in_default.ensures.taken)
      (c.in_default.ensures.nothing, refl, refl),
  c.number.ensures,
)

pub returns-in-Ok : goal.returns-in-Ok
returns-in-Ok c = (
  Ok tt,
  subst (λ (x : Option Reader). SpansTo c.args.span.now.seat.held c.put.new.self.seat.held x c.take.new.self.seat.held (Ok tt)) (sym c.in-Some.ensures.taken)
      (c.in-Some.ensures.nothing, c.put.ensures ∙ ap (λ (s : SpanValue). Some s) (c.in-Ok.ensures.ok ∙ c.of.ensures)),
  refl,
)

pub returns-in-Err : goal.returns-in-Err
returns-in-Err c = (
  Err codes.Memory,
  subst (λ (x : Option Reader). SpansTo c.args.span.now.seat.held c.args.span.now.seat.held x c.put-in-Err.new.self.seat.held (Err codes.Memory)) (sym c.in-Some.ensures.taken)
      (refl, refl, (c.into_reader.result.value, c.put-in-Err.ensures, c.into_reader.ensures ∙ (c.in-Err.ensures.value_returned ∙ c.of.ensures))),
  c.number-in-Err.ensures,
)
