use Rattle.cf_watch.proofs.WholeKeys.{whole_pairs}
use Rattle.cf_watch.proofs.laws.whole_pairs_are_seen.Goals as goal

pub returns : goal.returns
returns c = whole_pairs
