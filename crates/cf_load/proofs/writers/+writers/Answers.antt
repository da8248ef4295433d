use Rattle.std.proofs.Common.{rules}
use Rattle.cf_load.proofs.Progress.{both_wrote, either_out}
use Rattle.cf_load.proofs.writers.+writers.Goals as goal

pub returns-clause-wrote : goal.returns-clause-wrote
returns-clause-wrote g t c = rw (c.split_at_mut-front.ensures.value, c.or.ensures) (search (rules, both_wrote))

pub returns-clause-out : goal.returns-clause-out
returns-clause-out g t c = rw (c.split_at_mut-front.ensures.value, c.or.ensures) (search (rules, either_out))
