use Rattle.std.proofs.Common.{Err, Ok, Option, refl, subst, sym}
use Rattle.cf_store.specs.declared.held.Log.{Log}
use Rattle.cf_handles.specs.declared.code.Code.TheVariants as codes
use Rattle.cf_handles.specs.Ends.{ClosesTo}
use Rattle.cf_handles.proofs.logs.confluo_close.Goals as goal

pub returns-in_default : goal.returns-in_default
returns-in_default c = (
  Err codes.Nothing,
  subst (λ (x : Option Log). ClosesTo c.args.reader.now.seat.held c.args.reader.now.seat.held x c.take.new.self.seat.held (Err codes.Nothing)) (sym c.in_default.ensures.taken)
      (c.in_default.ensures.nothing, refl, refl),
  c.number.ensures,
)

pub returns-in-Ok : goal.returns-in-Ok
returns-in-Ok c = (
  Ok tt,
  subst (λ (x : Option Log). ClosesTo c.args.reader.now.seat.held c.put.new.self.seat.held x c.take.new.self.seat.held (Ok tt)) (sym c.in-Some.ensures.taken)
      (c.in-Some.ensures.nothing, (c.in-Ok.last.value, c.put.ensures, c.in-Ok.ensures)),
  refl,
)

pub returns-in-Err : goal.returns-in-Err
returns-in-Err c = (
  Err c.of_close.result,
  subst (λ (x : Option Log). ClosesTo c.args.reader.now.seat.held c.args.reader.now.seat.held x c.put-in-Err.new.self.seat.held (Err c.of_close.result)) (sym c.in-Some.ensures.taken)
      (refl, (c.in-Err.back.value, c.in-Err.refusal, c.put-in-Err.ensures, c.in-Err.ensures, c.of_close.ensures)),
  c.number-in-Err.ensures,
)
