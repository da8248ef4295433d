use Rattle.std.proofs.Common.{sym, ◌∙◌}
use Rattle.cf_core.proofs.Paths.{has_here, has_later, has_end}
use Rattle.cf_core.proofs.cells.is_in.Goals as goal

pub returns-then-linked-lane : goal.returns-then-linked-lane
returns-then-linked-lane c =
    sym (sym c.loop-linked.invariant ∙ has_here c.args.lanes.now c.loop-linked.linked-index c.args.lane c.loop-linked-test.true c.if-linked-lane.true)

pub loop-linked-preserved : goal.loop-linked-preserved
loop-linked-preserved c = sym (has_later c.args.lanes.now c.loop-linked.linked-index c.args.lane c.loop-linked-test.true c.if-linked-lane.false)
    ∙ c.loop-linked.invariant

pub returns : goal.returns
returns c = sym (sym c.loop-linked.invariant ∙ has_end c.args.lanes.now c.loop-linked.linked-index c.args.lane c.loop-linked-test.false)
