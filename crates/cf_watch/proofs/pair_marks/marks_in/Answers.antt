use Rattle.std.proofs.Common.{◌≡◌, ◌∙◌, ap, ap₂, map, filter, fold, ℕ, List}
use Rattle.std.proofs.lemmas.List.{get_or_read}
use Rattle.cf_plain.specs.declared.answer.Fired.{Fired}
use Rattle.cf_watch.specs.Kept.{BucketValue}
use Rattle.cf_watch.specs.Marks.{meets, put_mark}
use Rattle.cf_watch.specs.Pairs.{ApartValue, no_bucket}
use Rattle.cf_watch.specs.PairMarks.{marks_at, pair_fired, pair_mark}
use Rattle.cf_watch.proofs.Putting.{bucket_more}
use Rattle.cf_watch.proofs.pair_marks.marks_in.Goals as goal

pub loop-apart-preserved : goal.loop-apart-preserved
loop-apart-preserved c =
    let read = get_or_read c.args.buckets.now c.loop-apart.apart-index c.apart-item.result c.loop-apart-test.true c.apart-item.is no_bucket in
    let before : List Fired = map pair_fired c.loop-apart.values.entries in
    let put : map pair_fired c.put_marks.new.values.entries ≡ fold put_mark before (marks_at c.args.trigger.now (meets c.args.trigger.now) c.apart-item.result) =
    c.in_ok-put_marks.ensures
    ∙ ap₂ (λ (b : ℕ) (ps : List BucketValue). fold put_mark before (map (pair_mark c.args.trigger.now b) (filter (meets c.args.trigger.now) ps))) c.number.ensures c.pairs.ensures.is in
    bucket_more c.args.trigger.now (meets c.args.trigger.now) c.args.buckets.now c.loop-apart.apart-index no_bucket before (map pair_fired c.put_marks.new.values.entries)
    c.loop-apart-test.true c.loop-apart.invariant (put ∙ ap (λ (a : ApartValue). fold put_mark before (marks_at c.args.trigger.now (meets c.args.trigger.now) a)) read)
