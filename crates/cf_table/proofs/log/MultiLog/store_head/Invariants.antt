use Rattle.cf_table.specs.Effects.{head_effect}
use Rattle.cf_table.proofs.Calls.{given}
use Rattle.cf_table.proofs.log.MultiLog.store_head.Given as goal

abbrev pub ghosts-store_as : goal.ghosts-store_as
ghosts-store_as g a = record { given = given a.log.now.shape (head_effect a.log.now.shape a.token.now.view g.lane a._at.0 a._at.1 a._at.2) }
