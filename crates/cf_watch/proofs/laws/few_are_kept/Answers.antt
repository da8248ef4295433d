use Rattle.cf_watch.proofs.Since.{few_kept}
use Rattle.cf_watch.proofs.laws.few_are_kept.Goals as goal

pub returns : goal.returns
returns c = few_kept
