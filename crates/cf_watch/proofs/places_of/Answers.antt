use Rattle.std.proofs.Common.{◌∙◌}
use Rattle.cf_watch.proofs.Places.{place_more}
use Rattle.cf_watch.proofs.places_of.Goals as goal

pub loop-mark-preserved : goal.loop-mark-preserved
loop-mark-preserved c = λ q. c.in_ok-insert.ensures.updates.0 q
    ∙ place_more c.args.marks.now c.loop-mark.mark-index q _ _ c.loop-mark-test.true (c.loop-mark.invariant q)
