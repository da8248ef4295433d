use Rattle.std.proofs.Common.{◌≡◌, ◌∙◌, sym, ap, true, false, get_or}
use Rattle.std.proofs.lemmas.List.{get_or_read}
use Rattle.std.specs.BTreeMap.{insert_entry}
use Rattle.std.specs.Ordering.{nat_cmp}
use Rattle.cf_plain.specs.declared.answer.Fired.{Fired}
use Rattle.cf_watch.specs.Kept.{BucketValue, begun}
use Rattle.cf_watch.specs.Marks.{mark_in, is_untold}
use Rattle.cf_watch.proofs.Put.{marks_more, marks_same}
use Rattle.cf_watch.proofs.marks.untold_marks_of.Goals as goal
use Rattle.cf_watch.proofs.marks.untold_marks_of.Goals.{then-is_untold+in_ok-put, else-is_untold}

pub loop-bucket-preserved : goal.loop-bucket-preserved
loop-bucket-preserved c =
    let read = get_or_read c.args.buckets.now c.loop-bucket.bucket-index c.bucket-item.result c.loop-bucket-test.true c.bucket-item.is (begun 0 0) in
    let is = c.is_untold.ensures in
    elim c.if-is_untold.branch [
      | then-is_untold+in_ok-put w ↦
          let pass : is_untold c.args.trigger.now c.args.place (get_or c.args.buckets.now c.loop-bucket.bucket-index (begun 0 0)) ≡ true =
          ap (λ (k : BucketValue). is_untold c.args.trigger.now c.args.place k) (sym read) ∙ sym is ∙ w.if-is_untold.true in
          let mark : w.mark.result ≡ mark_in c.args.trigger.now (get_or c.args.buckets.now c.loop-bucket.bucket-index (begun 0 0)) =
          w.mark.ensures ∙ ap (λ (k : BucketValue). mark_in c.args.trigger.now k) read in
          rw w.values-is (marks_more c.args.trigger.now (is_untold c.args.trigger.now c.args.place) c.args.buckets.now c.loop-bucket.bucket-index (begun 0 0)
          c.loop-bucket.values.entries w.put.new.values.entries c.loop-bucket-test.true pass c.loop-bucket.invariant
          (w.in_ok-put.ensures ∙ ap (λ (m : Fired). insert_entry nat_cmp c.loop-bucket.values.entries m.bucket m.value) mark))
      | else-is_untold w ↦
          let fail : is_untold c.args.trigger.now c.args.place (get_or c.args.buckets.now c.loop-bucket.bucket-index (begun 0 0)) ≡ false =
          ap (λ (k : BucketValue). is_untold c.args.trigger.now c.args.place k) (sym read) ∙ sym is ∙ w.if-is_untold.false in
          rw w.values-is (marks_same c.args.trigger.now (is_untold c.args.trigger.now c.args.place) c.args.buckets.now c.loop-bucket.bucket-index (begun 0 0)
          c.loop-bucket.values.entries c.loop-bucket-test.true fail c.loop-bucket.invariant)
    ]
