use Rattle.std.proofs.Common.{◌-◌, []}
use Rattle.cf_plain.specs.Asks.{rows_in}
use Rattle.cf_walk.specs.Walks.{HasWalked}
use Rattle.cf_walk.specs.Measures.{HasGrouped}
use Rattle.cf_walk.specs.Reached.{IsPath}
use Rattle.cf_walk.proofs.leaves.groups.Given as goal

abbrev pub invariant-loop-last : goal.invariant-loop-last
invariant-loop-last g l = record {
  path : IsPath (l.log).shape l.lane l.path (g.P.Pass.held l.pass).view;
  walked : HasWalked (g.P.Pass.held l.fn.pass) (g.P.Pass.held l.pass) l.fn.steps l.steps;
  grouped : HasGrouped (l.log).shape l.lane 0 l.high (rows_in ((g.P.Pass.held l.fn.pass).view).seen) [] (l.groups).items l.last;
}

abbrev pub decreases-loop-last : goal.decreases-loop-last
decreases-loop-last g l = l.high - l.last
