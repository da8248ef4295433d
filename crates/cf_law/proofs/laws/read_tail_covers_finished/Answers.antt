use Rattle.cf_law.proofs.Said.{read_tail_covers_finished}
use Rattle.cf_law.proofs.laws.read_tail_covers_finished.Goals as goal

pub returns : goal.returns
returns c = read_tail_covers_finished
