use Rattle.cf_follow.proofs.OneEnding.{one_ending}
use Rattle.cf_follow.proofs.laws.one_ending_is_due.Goals as goal

pub returns : goal.returns
returns c = one_ending
