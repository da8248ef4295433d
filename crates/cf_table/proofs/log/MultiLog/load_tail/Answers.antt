use Rattle.cf_table.proofs.Seen.{tail_seen}
use Rattle.cf_table.proofs.Folds.{settled_stays}
use Rattle.cf_table.proofs.log.MultiLog.load_tail.Goals as goal

pub returns-clause-stays : goal.returns-clause-stays
returns-clause-stays g c =
    settled_stays c.args.self.now.shape (g.P.Pass.held c.args.pass.now)
    (g.P.Pass.held c.load_tail_by.new.self) c.args.asked c.load_tail_by.result c.load_tail_by.ensures.made

pub returns-clause-seen : goal.returns-clause-seen
returns-clause-seen g c =
    tail_seen c.args.self.now.shape (g.P.Pass.held c.args.pass.now).view
    (g.P.Pass.held c.load_tail_by.new.self).view c.args.asked c.load_tail_by.result c.load_tail_by.ensures.made.told
