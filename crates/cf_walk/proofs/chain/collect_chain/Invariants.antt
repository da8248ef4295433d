use Rattle.std.proofs.Common.{◌≡◌, ◌+◌, ◌-◌, ◌++◌, length}
use Rattle.cf_shape.specs.Nodes.{levels_of}
use Rattle.cf_walk.specs.Walks.{HasWalked, spot_above, leaf_of, chain_places}
use Rattle.cf_walk.proofs.Counted.{IsCounting}
use Rattle.cf_walk.proofs.Walked.{IsWalking, below}
use Rattle.cf_walk.proofs.chain.collect_chain.Given as goal

abbrev pub ghost-begin : goal.ghost-begin
ghost-begin g a = spot_above (a.log).now.shape (a.leaf).lane (a.leaf).key (levels_of (a.log).now.shape (a.leaf).lane - 1)

abbrev pub invariant-loop-link : goal.invariant-loop-link
invariant-loop-link g l = record {
  walked : HasWalked (g.P.Pass.held l.fn.pass) (g.P.Pass.held l.pass) l.fn.steps l.steps;
  walking : IsWalking (l.log).shape ((g.P.Pass.held l.fn.pass).view).seen l.writer (leaf_of (l.log).shape (l.leaf).lane (l.leaf).key) l.link
      (g.P.Pass.held l.pass).view;
  found : (l.found).items ++ below (l.log).shape l.writer (leaf_of (l.log).shape (l.leaf).lane (l.leaf).key) ((g.P.Pass.held l.fn.pass).view).seen l.link
      ≡ (l.fn.found).items ++ chain_places (l.log).shape (l.leaf).lane (l.leaf).key ((g.P.Pass.held l.fn.pass).view).seen l.writer;
  count : IsCounting (l.log).shape l.writer (g.P.Pass.held l.fn.pass) (g.P.Pass.held l.pass) l.link
      (length (below (l.log).shape l.writer (leaf_of (l.log).shape (l.leaf).lane (l.leaf).key) ((g.P.Pass.held l.fn.pass).view).seen l.link))
      (l.fn.steps + 1 + length (chain_places (l.log).shape (l.leaf).lane (l.leaf).key ((g.P.Pass.held l.fn.pass).view).seen l.writer)) l.steps;
}

abbrev pub decreases-loop-link : goal.decreases-loop-link
decreases-loop-link g l = l.link
