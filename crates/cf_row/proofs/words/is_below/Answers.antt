use Rattle.std.proofs.Common.{◌^◌, ◌≤◌, arith, sym, ◌∙◌}
use Rattle.std.proofs.Math.Nat.{pow-le-pow_right}
use Rattle.std.proofs.lemmas.Bool.{lt-ltb, le-leb}
use Rattle.cf_row.proofs.words.is_below.Goals as goal

pub pow-requires : goal.pow-requires
pow-requires c =
    let le : c.args.bytes ≤ 7 = omega arith in
    let p = pow-le-pow_right {n = 256} (omega arith) {i = c.args.bytes} {j = 7} le in
    rw c.from.ensures (omega (arith, p))

pub returns-then-bytes-ge8 : goal.returns-then-bytes-ge8
returns-then-bytes-ge8 c =
    let p = pow-le-pow_right {n = 256} (omega arith) {i = 8} {j = c.args.bytes} c.if-bytes-ge8.true in
    le-leb 8 c.args.bytes c.if-bytes-ge8.true ∙ sym (lt-ltb c.args.word (256 ^ c.args.bytes) (omega (arith, p, c.ranges.word)))
