use Rattle.std.proofs.Common.{◌≡◌, ◌<◌, ◌∙◌, ℕ, List, sym, ap, true, false, get_or, length, map, refl}
use Rattle.std.proofs.lemmas.List.{get_or_read}
use Rattle.cf_plain.specs.declared.answer.Fired.{Fired}
use Rattle.cf_watch.specs.Kept.{BucketValue, begun}
use Rattle.cf_watch.specs.Marks.{is_untold, put_mark}
use Rattle.cf_watch.specs.Notes.{pair_at}
use Rattle.cf_watch.specs.PairMarks.{pair_fired, pair_mark}
use Rattle.cf_watch.proofs.Untold.{all_put, one_put, one_skipped}
use Rattle.cf_watch.proofs.pair_marks.put_untold_at.Goals as goal
use Rattle.cf_watch.proofs.pair_marks.put_untold_at.Goals.{then-is_untold+in_ok-put, else-is_untold}

pub loop-at-preserved : goal.loop-at-preserved
loop-at-preserved c =
    let pairs : List BucketValue = c.args.pairs.now in
    let places : List ℕ = c.args.places.now in
    let at : ℕ = get_or places c.loop-at.at-index 0 in
    let before : List Fired = map pair_fired c.args.values.now.entries in
    let now : List Fired = map pair_fired c.loop-at.values.entries in
    let within : at < length pairs = c.requires.within c.loop-at.at-index 0 c.loop-at-test.true in
    let read = get_or_read pairs at c.index-pairs-at.result within c.index-pairs-at.is (begun 0 0) in
    let is = c.is_untold.ensures in
    elim c.if-is_untold.branch [
      | then-is_untold+in_ok-put w ↦
          let pass : is_untold c.args.trigger.now c.args.place (pair_at pairs at) ≡ true =
          ap (λ (k : BucketValue). is_untold c.args.trigger.now c.args.place k) (sym read) ∙ sym is ∙ w.if-is_untold.true in
          rw w.values-is (one_put c.args.trigger.now c.args.place c.args.bucket pairs places c.loop-at.at-index at before now (map pair_fired w.put.new.values.entries)
          c.requires.apart c.loop-at-test.true refl within pass c.loop-at.invariant
          (w.in_ok-put.ensures ∙ ap (λ (k : BucketValue). put_mark now (pair_mark c.args.trigger.now c.args.bucket k)) read))
      | else-is_untold w ↦
          let fail : is_untold c.args.trigger.now c.args.place (pair_at pairs at) ≡ false =
          ap (λ (k : BucketValue). is_untold c.args.trigger.now c.args.place k) (sym read) ∙ sym is ∙ w.if-is_untold.false in
          rw w.values-is (one_skipped c.args.trigger.now c.args.place c.args.bucket pairs places c.loop-at.at-index at before now c.loop-at-test.true refl fail c.loop-at.invariant)
    ]

pub returns : goal.returns
returns c =
    all_put c.args.trigger.now c.args.place c.args.bucket c.args.pairs.now c.args.places.now c.loop-at.at-index (map pair_fired c.args.values.now.entries)
    (map pair_fired c.loop-at.values.entries) c.loop-at-test.false c.loop-at.invariant
