use Rattle.std.proofs.Common.{◌≡◌, ◌∙◌, sym, ap, true, false, get_or, map}
use Rattle.std.proofs.lemmas.List.{get_or_read}
use Rattle.cf_watch.specs.Kept.{BucketValue, begun}
use Rattle.cf_watch.specs.Marks.{is_untold, put_mark}
use Rattle.cf_watch.specs.PairMarks.{pair_fired, pair_mark}
use Rattle.cf_watch.proofs.Putting.{marks_more, marks_same}
use Rattle.cf_watch.proofs.pair_marks.put_untold_marks.Goals as goal
use Rattle.cf_watch.proofs.pair_marks.put_untold_marks.Goals.{then-is_untold+in_ok-put, else-is_untold}

pub loop-pair-preserved : goal.loop-pair-preserved
loop-pair-preserved c =
    let read = get_or_read c.args.pairs.now c.loop-pair.pair-index c.pair-item.result c.loop-pair-test.true c.pair-item.is (begun 0 0) in
    let is = c.is_untold.ensures in
    elim c.if-is_untold.branch [
      | then-is_untold+in_ok-put w ↦
          let pass : is_untold c.args.trigger.now c.args.place (get_or c.args.pairs.now c.loop-pair.pair-index (begun 0 0)) ≡ true =
          ap (λ (k : BucketValue). is_untold c.args.trigger.now c.args.place k) (sym read) ∙ sym is ∙ w.if-is_untold.true in
          rw w.values-is (marks_more (pair_mark c.args.trigger.now c.args.bucket) (is_untold c.args.trigger.now c.args.place) (map pair_fired c.args.values.now.entries) c.args.pairs.now
          c.loop-pair.pair-index (begun 0 0) (map pair_fired c.loop-pair.values.entries) (map pair_fired w.put.new.values.entries) c.loop-pair-test.true pass
          c.loop-pair.invariant
          (w.in_ok-put.ensures ∙ ap (λ (k : BucketValue). put_mark (map pair_fired c.loop-pair.values.entries) (pair_mark c.args.trigger.now c.args.bucket k)) read))
      | else-is_untold w ↦
          let fail : is_untold c.args.trigger.now c.args.place (get_or c.args.pairs.now c.loop-pair.pair-index (begun 0 0)) ≡ false =
          ap (λ (k : BucketValue). is_untold c.args.trigger.now c.args.place k) (sym read) ∙ sym is ∙ w.if-is_untold.false in
          rw w.values-is (marks_same (pair_mark c.args.trigger.now c.args.bucket) (is_untold c.args.trigger.now c.args.place) (map pair_fired c.args.values.now.entries) c.args.pairs.now
          c.loop-pair.pair-index (begun 0 0) (map pair_fired c.loop-pair.values.entries) c.loop-pair-test.true fail c.loop-pair.invariant)
    ]
