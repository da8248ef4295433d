use Rattle.cf_law.proofs.Said.{words_tell}
use Rattle.cf_law.proofs.laws.words_tell.Goals as goal

pub returns : goal.returns
returns c = words_tell
