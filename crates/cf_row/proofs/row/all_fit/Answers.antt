use Rattle.std.proofs.Common.{sym, arith}
use Rattle.cf_row.specs.Kept.{values_of}
use Rattle.cf_row.proofs.Fitting.{values_apart}
use Rattle.cf_row.proofs.row.all_fit.Goals as goal

pub returns-then-attrs-len : goal.returns-then-attrs-len
returns-then-attrs-len c = sym (values_apart c.args.attrs.now (values_of c.args.values.now) (λ same. c.if-attrs-len.true (omega (arith, same, c.len.ensures))))
