use Rattle.std.proofs.Common.{◌<◌, length, arith}
use Rattle.cf_watch.specs.PairMarks.{with_pairs_told}
use Rattle.cf_watch.proofs.Told.{told_more}
use Rattle.cf_watch.proofs.pair_marks.tell_first_buckets.Goals as goal

pub loop-at-preserved : goal.loop-at-preserved
loop-at-preserved c =
    let lt : c.loop-at.at < length c.args.buckets.now = omega (arith, c.requires.within, c.loop-at-test.true) in
    told_more (with_pairs_told c.args.trigger.now c.args.place) c.args.buckets.now c.loop-at.buckets c.loop-at.at _ _ lt c.loop-at.invariant c.tell.ensures
