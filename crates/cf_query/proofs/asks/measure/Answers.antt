use Rattle.cf_query.proofs.Walking.{asked_walked}
use Rattle.cf_query.proofs.asks.measure.Goals as goal

pub returns-clause-asked : goal.returns-clause-asked
returns-clause-asked g c =
    asked_walked c.args.log.now.shape (g.P.Pass.held c.args.pass.now) (g.P.Pass.held c.tail-tail.new.pass)
    (g.P.Pass.held c.measure_range-quad.new.pass) c.tail-tail.ensures.asked c.measure_range-quad.ensures.walked.only
