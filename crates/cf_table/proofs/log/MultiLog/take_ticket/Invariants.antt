use Rattle.cf_table.specs.Rule.{given_take}
use Rattle.cf_table.proofs.log.MultiLog.take_ticket.Given as goal

abbrev pub ghosts-take_as : goal.ghosts-take_as
ghosts-take_as g a = record { given = given_take a.log.now.shape a.token.now.view a._row.now }
