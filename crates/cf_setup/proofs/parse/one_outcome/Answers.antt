use Rattle.cf_setup.proofs.SetupReads.{setup_only}
use Rattle.cf_setup.proofs.parse.one_outcome.Goals as goal

pub returns : goal.returns
returns c = setup_only
