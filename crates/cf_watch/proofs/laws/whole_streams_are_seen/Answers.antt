use Rattle.cf_watch.proofs.Whole.{whole_streams}
use Rattle.cf_watch.proofs.laws.whole_streams_are_seen.Goals as goal

pub returns : goal.returns
returns c = whole_streams
