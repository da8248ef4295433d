use Rattle.std.proofs.Common.{true}
use Rattle.cf_table.proofs.Looks.{tail_loads}
use Rattle.cf_query.proofs.Asked.{has_asked}
use Rattle.cf_query.proofs.asks.tail.Goals as goal

pub returns-clause-asked : goal.returns-clause-asked
returns-clause-asked g c = search (has_asked, c.load_tail.ensures)

pub returns-clause-loads : goal.returns-clause-loads
returns-clause-loads g c =
    tail_loads c.args.log.now.shape (g.P.Pass.held c.args.pass.now)
    (g.P.Pass.held c.load_tail.new.pass) true c.load_tail.result _ _ c.load_tail.ensures.made c.load_tail.ensures.steps
