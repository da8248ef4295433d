use Rattle.std.proofs.Common.{◌≡◌, ◌+◌, ◌-◌, ◌*◌, ◌≤◌, length}
use Rattle.cf_shape.specs.Nodes.{levels_of}
use Rattle.cf_walk.specs.Walks.{HasWalked}
use Rattle.cf_walk.specs.Measures.{HasMeasured}
use Rattle.cf_walk.specs.Reached.{IsPath}
use Rattle.cf_walk.proofs.measures.measure_keys.Given as goal

abbrev pub invariant-loop-last : goal.invariant-loop-last
invariant-loop-last g l = record {
  path : IsPath (l.log).shape l.lane l.path (g.P.Pass.held l.pass).view;
  walked : HasWalked (g.P.Pass.held l.fn.pass) (g.P.Pass.held l.pass) l.fn.steps l.steps;
  quad : HasMeasured (l.log).shape l.lane (l.fn.range).0 (l.fn.range).1 ((g.P.Pass.held l.fn.pass).view).seen l.total l.last;
  steps : (l.fn.range).0 ≡ (l.fn.range).1
      → l.steps ≤ l.fn.steps + (levels_of (l.log).shape l.lane - 1) + 4 * (l.log).shape.writers +
      ((l.log).shape.capacity - length ((g.P.Pass.held l.fn.pass).view).seen);
}

abbrev pub decreases-loop-last : goal.decreases-loop-last
decreases-loop-last g l = l.high - l.last
