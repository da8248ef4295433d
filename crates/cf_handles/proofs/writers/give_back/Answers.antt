use Rattle.std.proofs.Common.{◌++◌, ◌∷◌, ◌∙◌, None, Option, Some, ap, refl, subst, sym, []}
use Rattle.cf_store.specs.declared.held.Writer.{Writer}
use Rattle.cf_handles.specs.Calls.{GivesBack}
use Rattle.cf_handles.proofs.writers.give_back.Goals as goal

pub returns-in_default-clause-sent : goal.returns-in_default-clause-sent
returns-in_default-clause-sent c = subst (λ (x : Option Writer). GivesBack x None) (sym c.in_default.ensures.taken) refl

pub returns-clause-sent : goal.returns-clause-sent
returns-clause-sent c =
    subst (λ (x : Option Writer). GivesBack x (Some c.give_back.result)) (sym c.in-Some.ensures.taken)
    (ap Some (c.give_back.ensures ∙ ap (λ (w : Writer). w.way ++ w.pass ∷ []) c.into_inner.ensures))
