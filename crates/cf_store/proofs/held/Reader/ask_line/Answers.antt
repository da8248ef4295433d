use Rattle.std.proofs.Common.{Err, refl, subst}
use Rattle.cf_store.specs.Asks.{AnswersLine}
use Rattle.cf_store.specs.declared.held.Shared.{Shared}
use Rattle.cf_store.proofs.held.Reader.ask_line.Goals as goal

pub returns-in-Err : goal.returns-in-Err
returns-in-Err c = (
  refl,
  refl,
  subst (λ (s : Shared). AnswersLine s c.args.line.now c.args.self.now.pass c.ask_line_of.new.pass (Err c.in-Err.refusal)) c.deref.ensures
      c.in-Err.ensures.answers,
)
