use Rattle.cf_law.proofs.Said.{opening_is_empty}
use Rattle.cf_law.proofs.laws.opening_is_empty.Goals as goal

pub returns : goal.returns
returns c = opening_is_empty
