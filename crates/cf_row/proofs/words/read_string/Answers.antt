use Rattle.std.proofs.Common.{ap}
use Rattle.cf_row.specs.declared.row.Value.TheVariants.{Raw}
use Rattle.cf_row.proofs.Written.{short_string, long_string}
use Rattle.cf_row.proofs.words.read_string.Goals as goal

pub returns-then-size-gt8 : goal.returns-then-size-gt8
returns-then-size-gt8 c =
    ap (Raw c.args.size)
    (long_string c.args.size c.args.at c.args.words.now c.read_bytes.new.out c.read_bytes-then-size-gt8.new.out c.if-size-gt8.true c.requires.few
    c.read_bytes.ensures c.read_bytes-then-size-gt8.ensures)

pub returns-else-size-gt8 : goal.returns-else-size-gt8
returns-else-size-gt8 c =
    ap (Raw c.args.size)
    (short_string c.args.size c.args.at c.args.words.now c.read_bytes-else-size-gt8.new.out c.if-size-gt8.false c.read_bytes-else-size-gt8.ensures)
