use Rattle.cf_snapshot.proofs.Cuts.{cuts_are_of_one_moment}
use Rattle.cf_snapshot.proofs.laws.cuts_are_of_one_moment.Goals as goal

pub returns : goal.returns
returns c = cuts_are_of_one_moment
