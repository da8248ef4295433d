use Rattle.std.proofs.Common.{◌<◌, ◌^◌, rules}
use Rattle.cf_plain.proofs.Amounts.{amount_low}
use Rattle.cf_plain.proofs.total.amount.Goals as goal

pub overflow_cast-result : goal.overflow_cast-result
overflow_cast-result c =
    let low : c.number.result < 2 ^ 32 =
    rw c.number.ensures (amount_low c.args.schema.now c.args.attr c.args.row.now c.attrs-lawful.ensures.lawful c.requires.narrow c.requires.fits) in
    search (rules, low)
