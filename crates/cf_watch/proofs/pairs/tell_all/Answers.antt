use Rattle.std.proofs.Common.{arith}
use Rattle.cf_watch.specs.Kept.{begun}
use Rattle.cf_watch.specs.Marks.{with_told}
use Rattle.cf_watch.proofs.Noted.{quiet_more}
use Rattle.cf_watch.proofs.Told.{told_more}
use Rattle.cf_watch.proofs.pairs.tell_all.Goals as goal

pub loop-at-preserved : goal.loop-at-preserved
loop-at-preserved c = record {
  told = told_more (with_told c.args.trigger.now c.args.place) c.args.pairs.now c.loop-at.pairs c.loop-at.at _ _ c.loop-at-test.true c.loop-at.invariant.told c.tell.ensures.told;
  quiet = quiet_more c.args.trigger.now c.args.place c.loop-at.pairs c.loop-at.at c.tell.new.self (begun 0 0) (let long = c.loop-at.auto.pairs in omega (arith, long, c.loop-at-test.true)) c.tell.ensures.quiet c.loop-at.invariant.quiet;
}
