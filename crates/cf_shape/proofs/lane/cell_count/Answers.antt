use Rattle.std.proofs.Common.{arith}
use Rattle.cf_shape.proofs.Counts.{count_step, count_end, count_low}
use Rattle.cf_shape.proofs.lane.cell_count.Goals as goal

pub overflow_add-count : goal.overflow_add-count
overflow_add-count c =
    let e = count_step c.args.lanes.now c.loop-lane.lane-index c.lane-item.result c.loop-lane-test.true c.lane-item.is in
    let low = count_low c.args.lanes.now in
    omega (arith, e, low, c.loop-lane.invariant, c.from-count.ensures, c.cell_words.ensures, c.requires)

pub loop-lane-preserved : goal.loop-lane-preserved
loop-lane-preserved c =
    let e = count_step c.args.lanes.now c.loop-lane.lane-index c.lane-item.result c.loop-lane-test.true c.lane-item.is in
    omega (arith, e, c.loop-lane.invariant, c.from-count.ensures, c.cell_words.ensures)

pub returns-clause-count : goal.returns-clause-count
returns-clause-count c = omega (arith, c.loop-lane.invariant, count_end c.args.lanes.now c.loop-lane.lane-index c.loop-lane-test.false)

pub returns-clause-few : goal.returns-clause-few
returns-clause-few c =
    omega (arith, c.loop-lane.invariant, count_end c.args.lanes.now c.loop-lane.lane-index c.loop-lane-test.false, count_low c.args.lanes.now)
