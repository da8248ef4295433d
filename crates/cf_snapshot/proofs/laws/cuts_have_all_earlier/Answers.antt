use Rattle.cf_snapshot.proofs.Cuts.{cuts_have_all_earlier}
use Rattle.cf_snapshot.proofs.laws.cuts_have_all_earlier.Goals as goal

pub returns : goal.returns
returns c = cuts_have_all_earlier
