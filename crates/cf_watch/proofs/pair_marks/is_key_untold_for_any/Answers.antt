use Rattle.std.proofs.Common.{◌∙◌, sym}
use Rattle.std.specs.List.{list_any, range_with_len}
use Rattle.cf_watch.specs.PairMarks.{is_key_untold}
use Rattle.cf_watch.proofs.Told.{any_more, or_here, or_not}
use Rattle.cf_watch.proofs.pair_marks.is_key_untold_for_any.Goals as goal
use Rattle.cf_watch.proofs.pair_marks.is_key_untold_for_any.Goals.{then-is_key_untold, else-is_key_untold}

pub loop-place-preserved : goal.loop-place-preserved
loop-place-preserved c =
    let test = is_key_untold c.args.lane c.args.triggers.now c.args.buckets.now c.args.at in
    let more = any_more test c.loop-place.place in
    let is = c.is_key_untold.ensures in
    elim c.if-is_key_untold.branch [
      | then-is_key_untold w ↦ w.is_untold-is ∙ or_here (list_any test (range_with_len 0 c.loop-place.place)) (test c.loop-place.place) (sym is ∙ w.if-is_key_untold.true) ∙ sym more
      | else-is_key_untold w ↦ w.is_untold-is ∙ c.loop-place.invariant
          ∙ or_not (list_any test (range_with_len 0 c.loop-place.place)) (test c.loop-place.place) (sym is ∙ w.if-is_key_untold.false) ∙ sym more
    ]
