use Rattle.cf_table.specs.Effects.{finish_effect}
use Rattle.cf_table.proofs.Calls.{given}
use Rattle.cf_table.proofs.log.MultiLog.finish_record.Given as goal

abbrev pub ghosts-store_as : goal.ghosts-store_as
ghosts-store_as g a = record { given = given a.log.now.shape (finish_effect a.log.now.shape a.token.now.view a._at.0) }
