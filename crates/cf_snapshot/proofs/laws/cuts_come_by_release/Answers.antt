use Rattle.cf_snapshot.proofs.Cuts.{cuts_come_by_release}
use Rattle.cf_snapshot.proofs.laws.cuts_come_by_release.Goals as goal

pub returns : goal.returns
returns c = cuts_come_by_release
