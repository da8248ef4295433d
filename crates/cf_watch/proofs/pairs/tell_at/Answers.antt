use Rattle.std.proofs.Common.{◌≡◌, ◌<◌, ◌∙◌, ℕ, List, ap, arith, length, get_or, refl}
use Rattle.std.proofs.lemmas.List.{get_or_default}
use Rattle.cf_watch.specs.Kept.{BucketValue, begun}
use Rattle.cf_watch.specs.Marks.{with_told}
use Rattle.cf_watch.specs.Notes.{pair_at}
use Rattle.cf_watch.proofs.Untold.{told_all_there, told_at, untold_left}
use Rattle.cf_watch.proofs.pairs.tell_at.Goals as goal

pub loop-at-preserved : goal.loop-at-preserved
loop-at-preserved c =
    let pairs : List BucketValue = c.loop-at.pairs in
    let at : ℕ = get_or c.args.places.now c.loop-at.at-index 0 in
    let lt = c.loop-at-test.true in
    let within : at < length pairs = let long = c.loop-at.auto.pairs in omega (arith, long, c.requires.within c.loop-at.at-index 0 lt) in
    let read = get_or_default pairs at c.index-pairs-at.result (begun 0 0) within in
    let told : c.tell.new.self ≡ with_told c.args.trigger.now c.args.place (pair_at pairs at) =
    c.tell.ensures.told ∙ ap (with_told c.args.trigger.now c.args.place) read in
    record {
      told = told_at c.args.trigger.now c.args.place c.args.pairs.now pairs c.args.places.now c.loop-at.at-index at c.tell.new.self lt refl within told c.tell.ensures.quiet c.loop-at.invariant.told;
      untold = untold_left c.args.trigger.now c.args.place pairs c.args.places.now c.loop-at.at-index at c.tell.new.self lt refl within c.tell.ensures.quiet c.loop-at.invariant.untold;
    }

pub returns-clause-told : goal.returns-clause-told
returns-clause-told c =
    (told_all_there c.args.trigger.now c.args.place c.args.pairs.now c.loop-at.pairs c.args.places.now c.loop-at.at-index c.loop-at-test.false c.loop-at.invariant.told c.loop-at.invariant.untold).0

pub returns-clause-quiet : goal.returns-clause-quiet
returns-clause-quiet c =
    (told_all_there c.args.trigger.now c.args.place c.args.pairs.now c.loop-at.pairs c.args.places.now c.loop-at.at-index c.loop-at-test.false c.loop-at.invariant.told c.loop-at.invariant.untold).1
