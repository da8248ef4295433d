use Rattle.std.proofs.Common.{◌∙◌, Err, Ok, List, ℕ, refl, subst, sym}
use Rattle.cf_store.specs.Asks.{ReadsLine}
use Rattle.cf_store.proofs.Lined.{none_said, refused_line}
use Rattle.cf_store.proofs.line.ask_line_of.Goals as goal

pub returns-in-Err-clause-answers : goal.returns-in-Err-clause-answers
returns-in-Err-clause-answers c =
    refused_line c.args.shared.now c.args.line.now c.args.pass.now c.in-Err.refusal
    (subst (λ (text : List ℕ). ReadsLine text c.args.line.now (Err c.in-Err.refusal)) c.as_slice.ensures.value c.in-Err.ensures)

pub returns-in_default-clause-answers : goal.returns-in_default-clause-answers
returns-in_default-clause-answers c = (
  refl,
  none_said c.args.shared.now c.args.line.now c.in-Ok.longer
      (subst (λ (text : List ℕ). ReadsLine text c.args.line.now (Ok c.in-Ok.longer)) c.as_slice.ensures.value c.in-Ok.ensures) c.in_default.ensures,
)

pub returns-in-Ok-ask-clause-answers : goal.returns-in-Ok-ask-clause-answers
returns-in-Ok-ask-clause-answers c =
    let read = subst (λ (text : List ℕ). ReadsLine text c.args.line.now (Ok c.in-Ok.longer)) c.as_slice.ensures.value c.in-Ok.ensures in
    let told = c.in-Ok-ask.ensures.ok in (
      c.in-Some.question.now,
      record {
        one = sym c.contains.ensures.value ∙ c.if-contains.false;
        longer = c.in-Ok.longer;
        text = read.0;
        new = c.in-Some.ensures;
      },
      record { asked = told.0; tail = told.1; body = told.2; keyed = rw c.shape.ensures.shape at c.is_keyed-keyed.ensures },
    )
