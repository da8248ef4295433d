use Rattle.std.proofs.Common.{◌≡◌, arith, length, min}
use Rattle.cf_row.specs.declared.schema.TheConstants.{MOST_ATTRS}
use Rattle.cf_row.proofs.Kept.{take_min}
use Rattle.cf_row.proofs.values.front.Goals as goal

pub returns : goal.returns
returns c =
    let long : length c.args.words.now ≡ MOST_ATTRS = c.told-words in
    let most : c.min.result ≡ min c.args.count (length c.args.words.now) = omega (arith, c.min.ensures, c.from.ensures, long) in
    take_min c.args.count c.min.result c.args.words.now most
