use Rattle.std.proofs.Common.{arith}
use Rattle.cf_shape.proofs.Bounds.{ticket_few}
use Rattle.cf_shape.proofs.shape.Shape.ticket_words.Goals as goal

pub returns-clause-few : goal.returns-clause-few
returns-clause-few c = omega (arith, c.self.invariant.1, ticket_few _ c.self.invariant.0)
