use Rattle.std.proofs.Common.{rules, drop}
use Rattle.cf_outside.proofs.Parts.{copied}
use Rattle.cf_outside.proofs.pile.copy_some.Goals as goal

pub returns-clause-taken : goal.returns-clause-taken
returns-clause-taken c =
    copied c.args.bytes.now c.copy_from_slice.new.self (drop c.min-count.result c.args.buf.now) c.args.at c.min-count.result (search rules) (search rules)
