use Rattle.std.proofs.Common.{◌∙◌}
use Rattle.cf_row.proofs.Fitting.{byte_string, bytes_low}
use Rattle.cf_row.proofs.row.is_byte_string.Goals as goal

pub returns : goal.returns
returns c =
    let zeros = rw c.split_at.ensures.back at c.are_zero.ensures in
    zeros ∙ byte_string c.args.len c.args.bytes.now c.if-len-gt16.false c.told-bytes (bytes_low c.args.bytes.now (λ k _. c.fits-bytes k))
