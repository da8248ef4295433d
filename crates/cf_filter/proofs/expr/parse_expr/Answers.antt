use Rattle.cf_filter.proofs.expr.parse_expr.Goals as goal

pub returns-clause-found : goal.returns-clause-found
returns-clause-found c = rw c.as_bytes.ensures.value at c.parse_bytes.ensures.found

pub returns-clause-only : goal.returns-clause-only
returns-clause-only c = rw c.as_bytes.ensures.value at c.parse_bytes.ensures.only

pub returns-clause-of_schema : goal.returns-clause-of_schema
returns-clause-of_schema c = c.parse_bytes.ensures.of_schema
