use Rattle.std.proofs.Common.{◌≡◌, ◌+◌, ◌-◌, ◌≤◌, length}
use Rattle.cf_shape.specs.Nodes.{levels_of}
use Rattle.cf_walk.specs.Walks.{HasWalked, WentOver}
use Rattle.cf_walk.specs.Reached.{IsPath}
use Rattle.cf_walk.proofs.range.collect_range.Given as goal

abbrev pub invariant-loop-last : goal.invariant-loop-last
invariant-loop-last g l = record {
  path : IsPath (l.log).shape l.lane l.path (g.P.Pass.held l.pass).view;
  walked : HasWalked (g.P.Pass.held l.fn.pass) (g.P.Pass.held l.pass) l.fn.steps l.steps;
  over : WentOver (l.log).shape l.lane (l.fn.range).0 (l.fn.range).1 ((g.P.Pass.held l.fn.pass).view).seen (l.fn.found).items (l.found).items l.last;
  steps : (l.fn.range).0 ≡ (l.fn.range).1
      → l.steps ≤ l.fn.steps + (levels_of (l.log).shape l.lane - 1) + (l.log).shape.writers + (length (l.found).items - length (l.fn.found).items) +
      ((l.log).shape.capacity - length ((g.P.Pass.held l.fn.pass).view).seen);
}

abbrev pub decreases-loop-last : goal.decreases-loop-last
decreases-loop-last g l = l.high - l.last
