use Rattle.cf_watch.proofs.Once.{tells_once}
use Rattle.cf_watch.proofs.laws.buckets_are_told_once.Goals as goal

pub returns : goal.returns
returns c = tells_once
