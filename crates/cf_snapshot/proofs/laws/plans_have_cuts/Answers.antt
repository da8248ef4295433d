use Rattle.cf_snapshot.proofs.Planning.{plans_have_cuts}
use Rattle.cf_snapshot.proofs.laws.plans_have_cuts.Goals as goal

pub returns : goal.returns
returns c = plans_have_cuts
