use Rattle.std.proofs.Common.{◌≡◌, arith, ◌∙◌}
use Rattle.std.proofs.Math.ListN.{length-set}
use Rattle.cf_filter.proofs.Numbers.{pairs_more, pairs_all}
use Rattle.cf_filter.proofs.value.bytes_of.Goals as goal

pub loop-i-preserved : goal.loop-i-preserved
loop-i-preserved c = (
  length-set c.loop-i.bytes c.loop-i.i c.pair_of.result ∙ c.loop-i.invariant.0,
  pairs_more c.args.digits.now c.loop-i.bytes c.loop-i.i c.pair_of.result (omega (arith, c.loop-i.invariant.0)) c.loop-i.invariant.1 c.pair_of.ensures,
)

pub returns : goal.returns
returns c = let all : c.loop-i.i ≡ 16 = omega arith in pairs_all c.args.digits.now c.loop-i.bytes c.loop-i.invariant.0 (rw all at c.loop-i.invariant.1)
