use Rattle.std.proofs.Common.{◌≡◌, ◌+◌, ◌-◌, ◌*◌, ◌<◌, ◌≤◌}
use Rattle.cf_law.specs.Steps.{Knows}
use Rattle.cf_walk.specs.Walks.{HasWalked, spot_above}
use Rattle.cf_walk.specs.Reached.{IsPath}
use Rattle.cf_walk.proofs.tree.reach.Given as goal

abbrev pub invariant-loop-level : goal.invariant-loop-level
invariant-loop-level g l = record {
  path : IsPath (l.log).shape l.lane l.path (g.P.Pass.held l.pass).view;
  key : (l.path).key ≡ l.key;
  depth : (l.path).depth + 1 ≡ l.level;
  walked : HasWalked (g.P.Pass.held l.fn.pass) (g.P.Pass.held l.pass) l.fn.steps l.steps;
  within : 1 < l.level → l.node < (l.log).shape.writers * (l.log).shape.nodes;
  knows : 1 < l.level → Knows (g.P.Pass.held l.pass).view (spot_above (l.log).shape l.lane l.key (l.level - 1)) l.node;
  steps : l.steps + l.initial.level ≤ l.fn.steps + l.level;
}
