use Rattle.std.proofs.Common.{◌≡◌, ◌*◌, ◌≤◌, length}
use Rattle.cf_fold.specs.Quads.{quad_of}
use Rattle.cf_walk.specs.Walks.{HasWalked, leaf_amounts}
use Rattle.cf_walk.proofs.Counted.{IsCountingAll}
use Rattle.cf_walk.proofs.quads.leaf_quad.Given as goal

abbrev pub invariant-loop-writer : goal.invariant-loop-writer
invariant-loop-writer g l = record {
  walked : HasWalked (g.P.Pass.held l.fn.pass) (g.P.Pass.held l.pass) l.fn.steps l.steps;
  quad : l.total ≡ quad_of (leaf_amounts (l.log).shape (l.leaf).lane (l.leaf).key ((g.P.Pass.held l.fn.pass).view).seen l.writer);
  few : (l.total).count ≤ 65536 * l.writer;
  count : IsCountingAll (l.log).shape (g.P.Pass.held l.pass) (length ((g.P.Pass.held l.fn.pass).view).seen) l.writer l.fn.steps (3 * l.writer) l.steps;
}
