use Rattle.cf_filter.proofs.ExprLaws.{expr_only}
use Rattle.cf_filter.proofs.expr.one_outcome.Goals as goal

pub returns : goal.returns
returns c = expr_only
