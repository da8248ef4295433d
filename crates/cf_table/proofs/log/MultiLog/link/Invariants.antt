use Rattle.cf_table.specs.Effects.{link_effect}
use Rattle.cf_table.proofs.Calls.{given}
use Rattle.cf_table.proofs.log.MultiLog.link.Given as goal

abbrev pub ghosts-link_as : goal.ghosts-link_as
ghosts-link_as g a = record { given = given a.log.now.shape (link_effect a.token.now.view g.to.0 g.to.1 a.node) }
