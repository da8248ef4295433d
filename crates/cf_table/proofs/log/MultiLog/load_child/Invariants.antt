use Rattle.cf_table.specs.Effects.{child_effect}
use Rattle.cf_table.proofs.Calls.{given}
use Rattle.cf_table.proofs.log.MultiLog.load_child.Given as goal

abbrev pub ghosts-load_as : goal.ghosts-load_as
ghosts-load_as g a = record { given = given a.log.now.shape (child_effect a.log.now.shape (g.P.Pass.held a.pass.now).view g.to.0 g.to.1) }
