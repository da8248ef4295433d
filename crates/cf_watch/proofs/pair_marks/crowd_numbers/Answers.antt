use Rattle.std.proofs.Common.{◌≡◌, ◌∙◌, sym, ap, ℕ, true, false, get_or}
use Rattle.std.proofs.lemmas.List.{get_or_read}
use Rattle.std.specs.BTreeSet.{insert_key}
use Rattle.std.specs.Ordering.{nat_cmp}
use Rattle.cf_watch.specs.Pairs.{ApartValue, no_bucket}
use Rattle.cf_watch.specs.PairMarks.{is_crowd_untold}
use Rattle.cf_watch.proofs.Crowds.{crowd_more, crowd_same}
use Rattle.cf_watch.proofs.pair_marks.crowd_numbers.Goals as goal
use Rattle.cf_watch.proofs.pair_marks.crowd_numbers.Goals.{then-is_crowd_untold+in_ok-insert, else-is_crowd_untold}

pub loop-apart-preserved : goal.loop-apart-preserved
loop-apart-preserved c =
    let read = get_or_read c.args.buckets.now c.loop-apart.apart-index c.apart-item.result c.loop-apart-test.true c.apart-item.is no_bucket in
    let is = c.is_crowd_untold.ensures in
    elim c.if-is_crowd_untold.branch [
      | then-is_crowd_untold+in_ok-insert w ↦
          let pass : is_crowd_untold (get_or c.args.buckets.now c.loop-apart.apart-index no_bucket) ≡ true =
          ap (λ (a : ApartValue). is_crowd_untold a) (sym read) ∙ sym is ∙ w.if-is_crowd_untold.true in
          rw w.numbers-is (crowd_more c.args.buckets.now c.loop-apart.apart-index no_bucket c.loop-apart.numbers.keys w.insert.new.self.keys c.loop-apart-test.true pass
          c.loop-apart.invariant
          (w.in_ok-insert.ensures.keys ∙ ap (λ (n : ℕ). insert_key nat_cmp c.loop-apart.numbers.keys n) (w.number.ensures ∙ ap (λ (a : ApartValue). a.bucket) read)))
      | else-is_crowd_untold w ↦
          let fail : is_crowd_untold (get_or c.args.buckets.now c.loop-apart.apart-index no_bucket) ≡ false =
          ap (λ (a : ApartValue). is_crowd_untold a) (sym read) ∙ sym is ∙ w.if-is_crowd_untold.false in
          rw w.numbers-is (crowd_same c.args.buckets.now c.loop-apart.apart-index no_bucket c.loop-apart.numbers.keys c.loop-apart-test.true fail c.loop-apart.invariant)
    ]
