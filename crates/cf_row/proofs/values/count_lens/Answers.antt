use Rattle.std.proofs.Common.{arith}
use Rattle.cf_row.proofs.Kept.{lens_step, lens_end, lens_low}
use Rattle.cf_row.proofs.values.count_lens.Goals as goal

pub overflow_add-count : goal.overflow_add-count
overflow_add-count c =
    let e = rw c.kind_of.ensures at c.kind_words-count.ensures in
    omega (arith, lens_step c.args.lens.now c.loop-len.len-index c.loop-len-test.true, lens_low c.args.lens.now, c.loop-len.invariant, e, c.requires)

pub loop-len-preserved : goal.loop-len-preserved
loop-len-preserved c =
    let e = rw c.kind_of.ensures at c.kind_words-count.ensures in
    omega (arith, lens_step c.args.lens.now c.loop-len.len-index c.loop-len-test.true, c.loop-len.invariant, e)

pub returns : goal.returns
returns c = omega (arith, c.loop-len.invariant, lens_end c.args.lens.now c.loop-len.len-index c.loop-len-test.false)
