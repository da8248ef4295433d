use Rattle.cf_table.specs.Effects.{cell_effect}
use Rattle.cf_table.proofs.Calls.{given}
use Rattle.cf_table.proofs.log.MultiLog.load_cell.Given as goal

abbrev pub ghosts-load_as : goal.ghosts-load_as
ghosts-load_as g a = record { given = given a.log.now.shape (cell_effect a.log.now.shape (g.P.Pass.held a.pass.now).view a._at.0 a._at.1 a._at.2) }
