use Rattle.cf_project.proofs.LeftSetups.{keeps_named, setup_lawful}
use Rattle.cf_project.proofs.setups.kept_setups_are_setups.Goals as goal

pub returns-clause-setups : goal.returns-clause-setups
returns-clause-setups c = λ kept setup keeps lawful. setup_lawful kept setup keeps lawful

pub returns-clause-named : goal.returns-clause-named
returns-clause-named c = keeps_named
