use Rattle.cf_table.specs.Rule.{given_tail}
use Rattle.cf_table.proofs.log.MultiLog.load_tail_token.Given as goal

abbrev pub ghosts-tail_as : goal.ghosts-tail_as
ghosts-tail_as a = record { given = given_tail a.log.now.shape a.token.now.view a.asked }
