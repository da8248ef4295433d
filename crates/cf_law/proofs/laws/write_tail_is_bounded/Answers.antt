use Rattle.cf_law.proofs.Said.{write_tail_is_bounded}
use Rattle.cf_law.proofs.laws.write_tail_is_bounded.Goals as goal

pub returns : goal.returns
returns c = write_tail_is_bounded
