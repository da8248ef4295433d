use Rattle.std.proofs.Common.{◌≡◌, ℕ, arith, subst}
use Rattle.cf_row.proofs.Written.{Written, written_more, written_all, rest_low}
use Rattle.cf_row.proofs.words.read_bytes.Goals as goal

pub loop-left-preserved : goal.loop-left-preserved
loop-left-preserved c = record {
  within = omega arith;
  low = rest_low c.loop-left.left c.loop-left.rest c.loop-left-test.true c.loop-left.invariant.low;
  written = written_more c.args.out.now c.loop-left.out c.args.from c.args.size c.args.number c.loop-left.left c.loop-left.rest c.loop-left-test.true
      (omega (arith, c.loop-left.auto.out, c.requires.room, c.loop-left.invariant.within)) c.loop-left.invariant.low c.loop-left.invariant.written;
}

pub returns : goal.returns
returns c =
    let zero_left : c.loop-left.left ≡ 0 = omega arith in
    written_all c.args.out.now c.loop-left.out c.args.from c.args.size c.args.number c.loop-left.rest
    (subst (λ (n : ℕ). Written c.args.out.now c.loop-left.out c.args.from c.args.size c.args.number n c.loop-left.rest) zero_left c.loop-left.invariant.written)
