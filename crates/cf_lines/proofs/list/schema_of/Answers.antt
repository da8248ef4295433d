use Rattle.std.proofs.Common.{List, Option, IfSome, sym, ◌∙◌, subst}
use Rattle.std.proofs.lemmas.Result.{IfOk-weaker}
use Rattle.cf_row.specs.declared.schema.Attr.{Attr}
use Rattle.cf_lines.specs.Schemas.{ListText}
use Rattle.cf_lines.proofs.SchemaLaws.{schema_only, states_found}
use Rattle.cf_lines.proofs.list.schema_of.Goals as goal

pub returns-clause-found : goal.returns-clause-found
returns-clause-found c =
    IfOk-weaker c.read_schema.result _ _
    (λ read e. subst (λ (o : Option (List Attr)). IfSome o (ListText c.args.list.now)) (sym e) (states_found c.args.list.now)) c.read_schema.ensures

pub returns-clause-only : goal.returns-clause-only
returns-clause-only c = λ attrs h. IfOk-weaker c.read_schema.result _ _ (λ read e. e ∙ schema_only c.args.list.now attrs h) c.read_schema.ensures
