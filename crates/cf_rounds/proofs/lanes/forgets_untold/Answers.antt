use Rattle.std.proofs.Common.{◌∙◌, sym, ap}
use Rattle.std.specs.List.{list_any, range_with_len}
use Rattle.cf_watch.specs.Watched.{watched_forgets}
use Rattle.cf_watch.specs.declared.watched.Watched.{Watched}
use Rattle.cf_watch.proofs.Told.{any_more, or_here, or_not}
use Rattle.cf_rounds.specs.Lanes.{forgets_at}
use Rattle.cf_rounds.proofs.Keeping.{lane_at_place}
use Rattle.cf_rounds.proofs.lanes.forgets_untold.Goals as goal
use Rattle.cf_rounds.proofs.lanes.forgets_untold.Goals.{then-forgets_untold, else-forgets_untold}

pub loop-lane-preserved : goal.loop-lane-preserved
loop-lane-preserved c =
    let shape = c.args.shape.now in
    let row = c.args.row.now in
    let lane = c.loop-lane.lane in
    let test = forgets_at shape c.args.triggers.now c.args.kept.now row in
    let more = any_more test lane in
    let is = c.forgets_untold.ensures
    ∙ ap (λ (k : Watched). watched_forgets shape lane c.args.triggers.now k row)
    (lane_at_place c.args.kept.now lane c.index-kept-lane.result c.loop-lane-test.true c.index-kept-lane.is) in
    elim c.if-forgets_untold.branch [
      | then-forgets_untold w ↦ w.is_found-is ∙ or_here (list_any test (range_with_len 0 lane)) (test lane) (sym is ∙ w.if-forgets_untold.true) ∙ sym more
      | else-forgets_untold w ↦ w.is_found-is ∙ c.loop-lane.invariant
          ∙ or_not (list_any test (range_with_len 0 lane)) (test lane) (sym is ∙ w.if-forgets_untold.false) ∙ sym more
    ]
