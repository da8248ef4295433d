use Rattle.std.proofs.Common.{arith}
use Rattle.cf_shape.proofs.Bounds.{nodes_small}
use Rattle.cf_shape.proofs.places.nodes_at.Goals as goal

pub returns-clause-small : goal.returns-clause-small
returns-clause-small c = rw c.nodes_from.ensures.at (omega (arith, nodes_small c.args.shape.now c.nodes_from.ensures.lawful))
