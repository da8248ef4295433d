use Rattle.std.proofs.Common.{◌≡◌, ◌∙◌, sym, ap, true, false, get_or, map}
use Rattle.std.proofs.lemmas.List.{get_or_read}
use Rattle.cf_watch.specs.Kept.{BucketValue, begun}
use Rattle.cf_watch.specs.Marks.{meets, put_mark}
use Rattle.cf_watch.specs.PairMarks.{pair_fired, pair_mark}
use Rattle.cf_watch.proofs.Putting.{marks_more, marks_same}
use Rattle.cf_watch.proofs.pair_marks.put_marks.Goals as goal
use Rattle.cf_watch.proofs.pair_marks.put_marks.Goals.{then-meets+in_ok-put, else-meets}

pub loop-pair-preserved : goal.loop-pair-preserved
loop-pair-preserved c =
    let read = get_or_read c.args.pairs.now c.loop-pair.pair-index c.pair-item.result c.loop-pair-test.true c.pair-item.is (begun 0 0) in
    let is = c.meets.ensures in
    elim c.if-meets.branch [
      | then-meets+in_ok-put w ↦
          let pass : meets c.args.trigger.now (get_or c.args.pairs.now c.loop-pair.pair-index (begun 0 0)) ≡ true =
          ap (λ (k : BucketValue). meets c.args.trigger.now k) (sym read) ∙ sym is ∙ w.if-meets.true in
          rw w.values-is (marks_more (pair_mark c.args.trigger.now c.args.bucket) (meets c.args.trigger.now) (map pair_fired c.args.values.now.entries) c.args.pairs.now
          c.loop-pair.pair-index (begun 0 0) (map pair_fired c.loop-pair.values.entries) (map pair_fired w.put.new.values.entries) c.loop-pair-test.true pass
          c.loop-pair.invariant
          (w.in_ok-put.ensures ∙ ap (λ (k : BucketValue). put_mark (map pair_fired c.loop-pair.values.entries) (pair_mark c.args.trigger.now c.args.bucket k)) read))
      | else-meets w ↦
          let fail : meets c.args.trigger.now (get_or c.args.pairs.now c.loop-pair.pair-index (begun 0 0)) ≡ false =
          ap (λ (k : BucketValue). meets c.args.trigger.now k) (sym read) ∙ sym is ∙ w.if-meets.false in
          rw w.values-is (marks_same (pair_mark c.args.trigger.now c.args.bucket) (meets c.args.trigger.now) (map pair_fired c.args.values.now.entries) c.args.pairs.now
          c.loop-pair.pair-index (begun 0 0) (map pair_fired c.loop-pair.values.entries) c.loop-pair-test.true fail c.loop-pair.invariant)
    ]
