use Rattle.std.proofs.Common.{ℕ, subst, sym, length, List, Result, Ok, Err, IfOk}
use Rattle.cf_row.specs.declared.schema.Attr.{Attr}
use Rattle.cf_row.specs.declared.expr.Atom.{Atom}
use Rattle.cf_row.specs.Expr.{IsOfSchema}
use Rattle.cf_filter.specs.declared.fault.OffenceAt.{OffenceAt}
use Rattle.cf_filter.specs.declared.fault.FilterFault.{FilterFault}
use Rattle.cf_filter.specs.Exprs.{expr_at}
use Rattle.cf_filter.specs.Grammar.{ExprRead}
use Rattle.cf_filter.specs.Outcome.{Answers}
use Rattle.cf_filter.proofs.ExprLaws.{expr_only}
use Rattle.cf_filter.proofs.Lawful.{expr_fits}
use Rattle.cf_filter.proofs.expr.parse_bytes.Goals as goal

answered : (attrs : List Attr) (text : List ℕ) (r : Result (List (List Atom)) FilterFault) (read : Result (List (List Atom)) OffenceAt)
    → ExprRead attrs text read → Answers (length text) r read → IfOk r (IsOfSchema attrs)
answered attrs text (Ok expr) read h a = expr_fits attrs text expr (subst (ExprRead attrs text) a h)
answered attrs text (Err fault) read h a = _

pub returns-clause-found : goal.returns-clause-found
returns-clause-found c = let law = expr_only c.args.schema.now c.args.bytes.now in (expr_at c.args.schema.now c.args.bytes.now, law.holds, c.read_expr.ensures)

pub returns-clause-only : goal.returns-clause-only
returns-clause-only c = λ read h.
    let law = expr_only c.args.schema.now c.args.bytes.now in
    subst (λ (r : Result (List (List Atom)) OffenceAt). Answers (length c.args.bytes.now) c.read_expr.result r) (sym (law.only read h)) c.read_expr.ensures

pub returns-clause-of_schema : goal.returns-clause-of_schema
returns-clause-of_schema c =
    let law = expr_only c.args.schema.now c.args.bytes.now in
    answered c.args.schema.now c.args.bytes.now c.read_expr.result (expr_at c.args.schema.now c.args.bytes.now) law.holds c.read_expr.ensures
