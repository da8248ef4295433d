use Rattle.std.proofs.Common.{IfOk, List, Ok, ℕ, subst, sym}
use Rattle.cf_setup.specs.SetupText.{SetupText}
use Rattle.cf_store.specs.Opens.{IsNew}
use Rattle.cf_store.proofs.Opened.{by_setup, stated_by}
use Rattle.cf_store.proofs.held.Log.open.Goals as goal

pub of_setup-requires-clause-stated : goal.of_setup-requires-clause-stated
of_setup-requires-clause-stated c =
    subst (λ (text : List ℕ). SetupText text (Ok c.in_ok-setup.setup)) (sym c.in-Ok.ensures.items)
    (stated_by c.args.text.now c.args.sizes c.in_ok-setup.setup c.in_ok-setup.ensures)

pub returns : goal.returns
returns c =
    by_setup (λ setup log. IsNew c.args.text.now setup c.args.sizes log) c.args.text.now c.args.sizes c.in_ok-setup.setup c.of_setup.result
    c.in_ok-setup.ensures
    (subst (λ (text : List ℕ). IfOk c.of_setup.result (IsNew text c.in_ok-setup.setup c.args.sizes)) c.in-Ok.ensures.items c.of_setup.ensures.ok)
    c.of_setup.ensures.refused
