use Rattle.cf_filter.specs.Exprs.{expr_at}
use Rattle.cf_filter.proofs.ExprLaws.{expr_only}
use Rattle.cf_setup.proofs.filter.parse_over.Goals as goal

pub returns : goal.returns
returns c = let law = expr_only c.args.schema.now c.args.text.now in c.parse_bytes.ensures.only (expr_at c.args.schema.now c.args.text.now) law.holds
