use Rattle.cf_table.specs.Effects.{store_effect}
use Rattle.cf_table.proofs.Calls.{given}
use Rattle.cf_table.proofs.log.MultiLog.store_cell.Given as goal

abbrev pub ghosts-store_as : goal.ghosts-store_as
ghosts-store_as g a = record { given = given a.log.now.shape (store_effect a.token.now.view a._at.0 a._at.1 a.value) }
