use Rattle.std.proofs.Common.{arith}
use Rattle.cf_long.proofs.report.kept_plan.Goals as goal

pub kept_asks-requires : goal.kept_asks-requires
kept_asks-requires c =
    let marks = (c.requires.shape 1 1 0).marks in let few = c.asks.ensures.lawful.schema.few in omega (arith, marks, few)
