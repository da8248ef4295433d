use Rattle.cf_watch.proofs.Since.{all_since}
use Rattle.cf_watch.proofs.laws.quads_are_whole.Goals as goal

pub returns : goal.returns
returns c = all_since
