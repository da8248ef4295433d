use Rattle.cf_table.specs.Effects.{label_effect}
use Rattle.cf_table.proofs.Calls.{given}
use Rattle.cf_table.proofs.log.MultiLog.label.Given as goal

abbrev pub ghosts-store_as : goal.ghosts-store_as
ghosts-store_as g a = record { given = given a.log.now.shape (label_effect a.token.now.view a._at.0 a.value) }
