use Rattle.std.proofs.Common.{arith}
use Rattle.cf_row.proofs.Counts.{count_low}
use Rattle.cf_row.proofs.schema.Schema.words.Goals as goal

pub returns-clause-few : goal.returns-clause-few
returns-clause-few c = omega (arith, c.self.invariant.2, c.self.invariant.0.few, count_low c.self.inside.attrs.items)
