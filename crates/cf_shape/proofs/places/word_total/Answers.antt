use Rattle.std.proofs.Common.{arith}
use Rattle.cf_shape.proofs.Bounds.{total_small}
use Rattle.cf_shape.proofs.places.word_total.Goals as goal

pub returns-clause-small : goal.returns-clause-small
returns-clause-small c =
    rw (
      c.from.ensures,
      c.from-2.ensures,
      c.from-3.ensures,
      c.writers.ensures.writers,
      c.nodes.ensures.nodes,
      c.writers-2.ensures.writers,
      c.nodes_at.ensures.at,
    ) (omega (arith, total_small c.args.shape.now c.nodes_at.ensures.lawful))
