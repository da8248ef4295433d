use Rattle.std.proofs.Common.{◌≡◌, ◌++◌, length}
use Rattle.cf_walk.specs.Walks.{HasWalked, leaf_places}
use Rattle.cf_walk.proofs.Counted.{IsCountingAll}
use Rattle.cf_walk.proofs.chain.collect_leaf.Given as goal

abbrev pub invariant-loop-writer : goal.invariant-loop-writer
invariant-loop-writer g l = record {
  walked : HasWalked (g.P.Pass.held l.fn.pass) (g.P.Pass.held l.pass) l.fn.steps l.steps;
  count : IsCountingAll (l.log).shape (g.P.Pass.held l.pass) (length ((g.P.Pass.held l.fn.pass).view).seen) l.writer l.fn.steps
      (length (leaf_places (l.log).shape (l.leaf).lane (l.leaf).key ((g.P.Pass.held l.fn.pass).view).seen l.writer)) l.steps;
  found : (l.found).items ≡ (l.fn.found).items ++ leaf_places (l.log).shape (l.leaf).lane (l.leaf).key ((g.P.Pass.held l.fn.pass).view).seen l.writer;
}
