use Rattle.cf_watch.proofs.PairOnce.{tells_crowds_once, tells_pairs_once}
use Rattle.cf_watch.proofs.laws.pairs_are_told_once.Goals as goal

pub returns : goal.returns
returns c = record { pairs = tells_pairs_once; crowds = tells_crowds_once }
