use Rattle.cf_table.specs.Rule.{given_advance}
use Rattle.cf_table.proofs.log.MultiLog.advance_token.Given as goal

abbrev pub ghosts-advance_as : goal.ghosts-advance_as
ghosts-advance_as a = record { given = given_advance a.log.now.shape a.token.now.view a.tail }
