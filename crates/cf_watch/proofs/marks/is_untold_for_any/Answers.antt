use Rattle.std.proofs.Common.{◌∙◌, sym}
use Rattle.std.specs.List.{list_any, range_with_len}
use Rattle.cf_watch.specs.Marks.{is_bucket_untold}
use Rattle.cf_watch.proofs.Told.{any_more, or_here, or_not}
use Rattle.cf_watch.proofs.marks.is_untold_for_any.Goals as goal
use Rattle.cf_watch.proofs.marks.is_untold_for_any.Goals.{then-is_untold_at, else-is_untold_at}

pub loop-place-preserved : goal.loop-place-preserved
loop-place-preserved c =
    let test = is_bucket_untold c.args.lane c.args.triggers.now c.args.bucket.now in
    let more = any_more test c.loop-place.place in
    let is = c.is_untold_at.ensures in
    elim c.if-is_untold_at.branch [
      | then-is_untold_at w ↦ w.is_untold-is ∙ or_here (list_any test (range_with_len 0 c.loop-place.place)) (test c.loop-place.place) (sym is ∙ w.if-is_untold_at.true) ∙ sym more
      | else-is_untold_at w ↦ w.is_untold-is ∙ c.loop-place.invariant
          ∙ or_not (list_any test (range_with_len 0 c.loop-place.place)) (test c.loop-place.place) (sym is ∙ w.if-is_untold_at.false) ∙ sym more
    ]
