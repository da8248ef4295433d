use Rattle.std.proofs.Common.{arith}
use Rattle.cf_row.proofs.Counts.{count_step, count_end, count_low}
use Rattle.cf_row.proofs.words.count_words.Goals as goal

pub overflow_add-count : goal.overflow_add-count
overflow_add-count c =
    let e = count_step c.args.attrs.now c.loop-attr.attr-index c.attr-item.result c.loop-attr-test.true c.attr-item.is in
    let low = count_low c.args.attrs.now in
    omega (arith, e, low, c.loop-attr.invariant, c.kind_words-count.ensures, c.requires)

pub loop-attr-preserved : goal.loop-attr-preserved
loop-attr-preserved c =
    let e = count_step c.args.attrs.now c.loop-attr.attr-index c.attr-item.result c.loop-attr-test.true c.attr-item.is in
    omega (arith, e, c.loop-attr.invariant, c.kind_words-count.ensures)

pub returns-clause-count : goal.returns-clause-count
returns-clause-count c = omega (arith, c.loop-attr.invariant, count_end c.args.attrs.now c.loop-attr.attr-index c.loop-attr-test.false)

pub returns-clause-few : goal.returns-clause-few
returns-clause-few c =
    omega (arith, c.loop-attr.invariant, count_end c.args.attrs.now c.loop-attr.attr-index c.loop-attr-test.false, count_low c.args.attrs.now)
