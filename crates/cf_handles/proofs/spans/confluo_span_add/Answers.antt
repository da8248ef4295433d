use Rattle.std.proofs.Common.{◌∙◌, Err, Ok, Option, refl, subst, sym}
use Rattle.cf_store.specs.declared.held.Reader.{Reader}
use Rattle.cf_handles.specs.declared.code.Code.TheVariants as codes
use Rattle.cf_handles.specs.Spanned.{AddsTo}
use Rattle.cf_handles.proofs.Called.{by_handle, filled, if_lent, if_not_lent, nothing_by}
use Rattle.cf_handles.proofs.spans.confluo_span_add.Goals as goal

pub returns-in_default : goal.returns-in_default
returns-in_default c = (
  Err codes.Nothing,
  nothing_by (AddsTo c.args.reader.now.seat.held c.args.reader.now.seat.held) c.args.span.now.seat.held _ c.in_default.ensures.value (if_not_lent c.get_mut.result c.in_default.is c.get_mut.follows.holds-at-none),
  λ none. refl,
  c.number.ensures,
)

pub returns-in_default-take : goal.returns-in_default-take
returns-in_default-take c =
    let m = c.in-Some.span.now in
    let held = c.args.span.now.seat.held in
    let after = c.take.new.self.seat.held in (
      Err codes.Nothing,
      by_handle (AddsTo c.args.reader.now.seat.held after) held _ m m (Err codes.Nothing) c.in-Some.ensures.value
          (if_lent c.get_mut.result c.in-Some.span c.in-Some.is (c.get_mut.follows.holds m))
          (subst (λ (x : Option Reader). AddsTo x after m m (Err codes.Nothing)) (sym c.in_default-take.ensures.taken) (c.in_default-take.ensures.nothing, refl, refl)),
      λ none. c.in_default-take.ensures.nothing ∙ sym c.in_default-take.ensures.taken,
      c.number-in_default-take.ensures,
    )

pub returns-in-Ok : goal.returns-in-Ok
returns-in-Ok c =
    let m = c.in-Some.span.now in
    let n = c.add.new.self in
    let held = c.args.span.now.seat.held in
    let after = c.take.new.self.seat.held in (
      Ok tt,
      by_handle (AddsTo c.args.reader.now.seat.held after) held _ m n (Ok tt) c.in-Some.ensures.value
          (if_lent c.get_mut.result c.in-Some.span c.in-Some.is (c.get_mut.follows.holds n))
          (subst (λ (x : Option Reader). AddsTo x after m n (Ok tt)) (sym c.in-Some-take.ensures.taken) (c.in-Some-take.ensures.nothing, c.in-Ok.ensures)),
      filled held m c.in-Some.ensures.value,
      refl,
    )

pub returns-in-Err : goal.returns-in-Err
returns-in-Err c =
    let m = c.in-Some.span.now in
    let n = c.add.new.self in
    let held = c.args.span.now.seat.held in
    let after = c.put.new.self.seat.held in
    let code = c.of_add.result in (
      Err code,
      by_handle (AddsTo c.args.reader.now.seat.held after) held _ m n (Err code) c.in-Some.ensures.value
          (if_lent c.get_mut.result c.in-Some.span c.in-Some.is (c.get_mut.follows.holds n))
          (subst (λ (x : Option Reader). AddsTo x after m n (Err code)) (sym c.in-Some-take.ensures.taken)
          (c.in-Err.back.value, c.in-Err.refusal, c.put.ensures, c.in-Err.ensures, c.of_add.ensures)),
      filled held m c.in-Some.ensures.value,
      c.number-in-Err.ensures,
    )
