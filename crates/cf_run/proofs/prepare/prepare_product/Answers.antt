use Rattle.std.proofs.Common.{Err, subst}
use Rattle.cf_run.specs.Parts.{EndsWith}
use Rattle.cf_intake.specs.declared.refusal.Halt.{Halt}
use Rattle.cf_command.specs.Call.{call_by}
use Rattle.std.specs.Option.{option_map}
use Rattle.cf_run.proofs.Coming.{refused_prepared}
use Rattle.cf_run.proofs.prepare.prepare_product.Goals as goal

pub returns-in-Err-Refused-clause-prepared : goal.returns-in-Err-Refused-clause-prepared
returns-in-Err-Refused-clause-prepared g c =
    refused_prepared (g.F.Shelf.files c.args.shelf.now) (option_map call_by c.args.command) (g.F.Shelf.rest c.args.shelf.now)
    (g.F.Shelf.rest c.product_of.new.shelf) c.in-Err-Refused.refusal c.refused.result
    (subst (λ (h : Halt). EndsWith (g.F.Shelf.files c.args.shelf.now) (option_map call_by c.args.command) (g.F.Shelf.rest c.args.shelf.now)
    (g.F.Shelf.rest c.product_of.new.shelf) (Err h)) c.in-Err-Refused.field-0-is c.in-Err-Refused.ensures.ends) c.refused.ensures
