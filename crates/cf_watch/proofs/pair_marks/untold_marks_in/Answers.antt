use Rattle.std.proofs.Common.{◌∙◌, ap, map, fold, List}
use Rattle.std.proofs.lemmas.List.{get_or_read}
use Rattle.cf_plain.specs.declared.answer.Fired.{Fired}
use Rattle.cf_watch.specs.Marks.{is_untold, put_mark}
use Rattle.cf_watch.specs.Pairs.{ApartValue, no_bucket}
use Rattle.cf_watch.specs.PairMarks.{marks_at, pair_fired}
use Rattle.cf_watch.proofs.Putting.{bucket_more}
use Rattle.cf_watch.proofs.pair_marks.untold_marks_in.Goals as goal

pub loop-apart-preserved : goal.loop-apart-preserved
loop-apart-preserved c =
    let read = get_or_read c.args.buckets.now c.loop-apart.apart-index c.apart-item.result c.loop-apart-test.true c.apart-item.is no_bucket in
    let before : List Fired = map pair_fired c.loop-apart.values.entries in
    bucket_more c.args.trigger.now (is_untold c.args.trigger.now c.args.place) c.args.buckets.now c.loop-apart.apart-index no_bucket before
    (map pair_fired c.put_untold_of.new.values.entries) c.loop-apart-test.true c.loop-apart.invariant
    (c.in_ok-put_untold_of.ensures ∙ ap (λ (a : ApartValue). fold put_mark before (marks_at c.args.trigger.now (is_untold c.args.trigger.now c.args.place) a)) read)
