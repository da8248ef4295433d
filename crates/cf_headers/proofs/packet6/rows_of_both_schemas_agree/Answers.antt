use Rattle.cf_headers.proofs.Agreeing.{agrees}
use Rattle.cf_headers.proofs.packet6.rows_of_both_schemas_agree.Goals as goal

pub returns : goal.returns
returns c = agrees
