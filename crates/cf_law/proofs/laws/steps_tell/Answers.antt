use Rattle.cf_law.proofs.Said.{steps_tell}
use Rattle.cf_law.proofs.laws.steps_tell.Goals as goal

pub returns : goal.returns
returns c = steps_tell
