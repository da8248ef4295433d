use Rattle.cf_watch.specs.PairMarks.{with_crowd_told}
use Rattle.cf_watch.proofs.Told.{told_more}
use Rattle.cf_watch.proofs.pair_marks.tell_crowds.Goals as goal

pub loop-at-preserved : goal.loop-at-preserved
loop-at-preserved c = told_more with_crowd_told c.args.buckets.now c.loop-at.buckets c.loop-at.at _ _ c.loop-at-test.true c.loop-at.invariant c.tell_crowd.ensures
