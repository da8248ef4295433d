use Rattle.cf_table.specs.Effects.{walk_effect}
use Rattle.cf_table.proofs.Calls.{given}
use Rattle.cf_table.proofs.log.MultiLog.load_head.Given as goal

abbrev pub ghosts-load_as : goal.ghosts-load_as
ghosts-load_as g a = record { given = given a.log.now.shape (walk_effect a.log.now.shape (g.P.Pass.held a.pass.now).view g.of_node a._at.0 a._at.1 a._at.2) }
