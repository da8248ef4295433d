use Rattle.std.proofs.Common.{rules, ◌≡◌, ◌∙◌, ◌<◌, ◌≤◌, ◌+◌, ◌-◌, ◌++◌, false, true, List, length, take, ap, sym, subst, arith}
use Rattle.std.proofs.lemmas.List.{take_all}
use Rattle.cf_row.specs.Row.{RowValue}
use Rattle.cf_fill.specs.Filling.{AreLoaded}
use Rattle.cf_load.specs.declared.plan.LivePlan.{LivePlan}
use Rattle.cf_fill.proofs.Taken.{front_loaded, loads_next, loads_stopped, next_part}
use Rattle.cf_fill.proofs.filling.load_parts.Goals as goal

pub most-requires-clause-loading : goal.most-requires-clause-loading
most-requires-clause-loading g c =
    let v = c.loop-count.invariant in
    let had = c.requires.rows in
    let going : c.loop-count.loader.stopped ≡ false = search rules in (
      had.before ++ take c.loop-count.count c.args.rows.now,
      (front_loaded c.args.segments.now c.loop-count.segments c.args.rows.now c.args.loader.now c.loop-count.loader c.loop-count.count 0 v.loads going
          had.before had.loaded).loading,
    )

pub most-requires-clause-quiet : goal.most-requires-clause-quiet
most-requires-clause-quiet g c = ap (λ (p : LivePlan). p.rounds) c.loop-count.invariant.plan ∙ c.requires.quiet

pub load-requires-after_bounds : goal.load-requires-after_bounds
load-requires-after_bounds g c κs within =
    let v = c.loop-count.invariant in
    let going : c.loop-count.loader.stopped ≡ false = search rules in
    let most = c.most.ensures in
    let some = most.some in
    let part = c.min-part.ensures in
    let more = c.loop-count-test.true in
    next_part c.args.segments.now c.loop-count.segments c.args.rows.now c.args.loader.now c.loop-count.loader c.loop-count.count c.min-part.result v.loads
    going c.requires.rows v.shape v.most (omega (arith, part, some, more)) (omega (arith, part, more)) (most.may c.min-part.result (omega (arith, part)))

pub loop-count-preserved : goal.loop-count-preserved
loop-count-preserved g c =
    let v = c.loop-count.invariant in
    let going : c.loop-count.loader.stopped ≡ false = search rules in
    let part = c.min-part.ensures in
    let more = c.loop-count-test.true in
    record {
      within = omega (arith, part, more);
      shape = c.load.ensures.shape ∙ v.shape;
      most = c.load.ensures.most ∙ v.most;
      plan = c.load.ensures.plan ∙ v.plan;
      loads = loads_next c.args.segments.now c.loop-count.segments c.args.rows.now c.args.loader.now c.loop-count.loader c.loop-count.count
          c.min-part.result v.loads going c.load.new.segments c.load.new.loader c.in_ok-load.ensures.loaded;
    }

pub returns-then-stopped-clause-loaded : goal.returns-then-stopped-clause-loaded
returns-then-stopped-clause-loaded g c =
    let stopped : c.loop-count.loader.stopped ≡ true = search rules in
    loads_stopped c.args.segments.now c.loop-count.segments c.args.rows.now c.args.loader.now c.loop-count.loader c.loop-count.count
    c.loop-count.invariant.loads stopped

pub returns-clause-loaded : goal.returns-clause-loaded
returns-clause-loaded g c = λ before so.
    let rows = c.args.rows.now in
    subst (λ (rs : List RowValue). AreLoaded c.loop-count.segments (before ++ rs) c.loop-count.loader)
    (take_all c.loop-count.count rows c.loop-count-test.false) (c.loop-count.invariant.loads before so)
