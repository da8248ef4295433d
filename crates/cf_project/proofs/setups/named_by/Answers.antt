use Rattle.std.proofs.Common.{◌≡◌, ◌∙◌, Bool, List, Vec, Global, ap₂, subst, sym}
use Rattle.std.proofs.lemmas.Result.{IfOk-weaker}
use Rattle.cf_shape.specs.Lanes.{ShapeValue}
use Rattle.cf_plain.specs.declared.ask.Ask.{Ask}
use Rattle.cf_project.specs.Named.{named_in}
use Rattle.cf_project.specs.Setups.{KeepsSetup}
use Rattle.cf_project.proofs.LeftSetups.{keeps_named}
use Rattle.cf_project.proofs.setups.named_by.Goals as goal

pub returns-clause-keeps : goal.returns-clause-keeps
returns-clause-keeps c =
    let same = ap₂ (λ (s : ShapeValue) (qs : List Ask). named_in s qs) c.in_ok-shape.ensures c.asks.ensures.asks in
    IfOk-weaker c.named_attributes.result (λ (kept : Vec Bool Global). kept.items ≡ named_in c.in_ok-shape.shape c.asks.result.now)
    (λ (kept : Vec Bool Global). KeepsSetup kept.items c.args.setup.now)
    (λ kept is. subst (λ (marks : List Bool). KeepsSetup marks c.args.setup.now) (sym (is ∙ same)) (keeps_named c.args.setup.now c.asks.ensures.lawful))
    c.named_attributes.ensures
