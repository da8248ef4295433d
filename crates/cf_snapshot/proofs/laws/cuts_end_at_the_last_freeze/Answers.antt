use Rattle.cf_snapshot.proofs.Cuts.{cuts_end_at_the_last_freeze}
use Rattle.cf_snapshot.proofs.laws.cuts_end_at_the_last_freeze.Goals as goal

pub returns : goal.returns
returns c = cuts_end_at_the_last_freeze
