use Rattle.std.proofs.Common.{rules, ◌≡◌, ◌∙◌, false, arith}
use Rattle.cf_fill.proofs.Taken.{loads_next, next_batch}
use Rattle.cf_fill.proofs.filling.load_whole.Goals as goal

pub load-requires-after_bounds : goal.load-requires-after_bounds
load-requires-after_bounds g c κs within =
    let v = c.loop-count.invariant in
    let going : c.loop-count.loader.stopped ≡ false = search rules in
    let more = c.loop-count-test.true in
    let low = v.within in
    next_batch c.args.segments.now c.loop-count.segments c.args.rows.now c.args.loader.now c.loop-count.loader c.loop-count.count v.loads going c.requires.rows
    v.shape v.most c.requires.due v.whole (omega (arith, more, low))

pub loop-count-preserved : goal.loop-count-preserved
loop-count-preserved g c =
    let v = c.loop-count.invariant in
    let going : c.loop-count.loader.stopped ≡ false = search rules in
    let more = c.loop-count-test.true in
    let low = v.within in
    let whole = v.whole in
    record {
      within = omega (arith, more, low);
      whole = omega (arith, whole);
      shape = c.load.ensures.shape ∙ v.shape;
      most = c.load.ensures.most ∙ v.most;
      plan = c.load.ensures.plan ∙ v.plan;
      loads = loads_next c.args.segments.now c.loop-count.segments c.args.rows.now c.args.loader.now c.loop-count.loader c.loop-count.count 4096 v.loads going
          c.load.new.segments c.load.new.loader c.in_ok-load.ensures.loaded;
    }
