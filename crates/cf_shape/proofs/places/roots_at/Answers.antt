use Rattle.std.proofs.Common.{arith}
use Rattle.cf_shape.proofs.Bounds.{roots_small}
use Rattle.cf_shape.proofs.places.roots_at.Goals as goal

pub returns-clause-small : goal.returns-clause-small
returns-clause-small c = rw c.roots.ensures.at (omega (arith, roots_small c.args.shape.now c.roots.ensures.lawful))
