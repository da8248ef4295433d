use Rattle.cf_table.proofs.Settling.{advance_stays}
use Rattle.cf_table.proofs.log.MultiLog.advance.Goals as goal

pub returns-clause-stays : goal.returns-clause-stays
returns-clause-stays g c =
    advance_stays c.args.self.now.shape (g.P.Pass.held c.args.pass.now)
    (g.P.Pass.held c.advance_by.new.self) c.args.tail c.requires.lawful c.advance_by.ensures.made
