use Rattle.cf_law.proofs.Said.{seen_never_changes}
use Rattle.cf_law.proofs.laws.seen_never_changes.Goals as goal

pub returns : goal.returns
returns c = seen_never_changes
