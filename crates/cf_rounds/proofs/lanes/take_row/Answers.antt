use Rattle.std.proofs.Common.{ap, arith}
use Rattle.cf_watch.specs.Watched.{watched_count}
use Rattle.cf_rounds.proofs.Keeping.{kept_more, set_counted, to_counted}
use Rattle.cf_rounds.proofs.lanes.take_row.Goals as goal

pub returns-in_err-take_at-clause-counted : goal.returns-in_err-take_at-clause-counted
returns-in_err-take_at-clause-counted c = λ count all.
    set_counted count c.loop-lane.lane c.args.shape.now c.args.row.now c.args.kept.now c.loop-lane.kept c.take_at.new.kept c.index-kept-lane.result
    c.loop-lane-test.true c.loop-lane.invariant
    (let is = ap watched_count c.index-kept-lane.is in omega (arith, is, c.in_err-take_at.ensures.count)) all

pub loop-lane-preserved : goal.loop-lane-preserved
loop-lane-preserved c =
    kept_more c.args.shape.now c.args.row.now c.args.kept.now c.loop-lane.kept c.loop-lane.lane c.index-kept-lane.result c.loop-lane-test.true
    c.loop-lane.invariant c.take_at.new.kept
    c.in_ok-take_at.ensures.ok

pub returns-clause-counted : goal.returns-clause-counted
returns-clause-counted c = λ count all.
    to_counted c.args.shape.now c.args.row.now c.loop-lane.lane count c.args.kept.now c.loop-lane.kept c.loop-lane.invariant all
