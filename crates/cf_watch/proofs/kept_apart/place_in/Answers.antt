use Rattle.std.proofs.Common.{◌≡◌, ◌∙◌, ◌<◌, length, get_or}
use Rattle.std.proofs.lemmas.List.{with_items_is}
use Rattle.cf_watch.specs.Pairs.{no_bucket}
use Rattle.cf_watch.proofs.Placing.{taken_at}
use Rattle.cf_watch.proofs.kept_apart.place_in.Goals as goal

pub returns-in_ok-take_at-in-Some-clause-ok : goal.returns-in_ok-take_at-in-Some-clause-ok
returns-in_ok-take_at-in-Some-clause-ok c =
    let taken = rw c.deref_mut.ensures.value at c.in_ok-take_at-in-Some.ensures.ok in
    let at : (c.in-Some.place < length c.args.buckets.now.items) × ((get_or c.args.buckets.now.items c.in-Some.place no_bucket).bucket ≡ c.args.number) =
    rw c.deref.ensures.value at c.in-Some.ensures in
    with_items_is c.args.buckets.now c.take_at.new.buckets (c.take_at.auto.buckets ∙ c.deref_mut.ensures.len)
    ∙ taken
    ∙ taken_at c.args.buckets.now.items c.in-Some.place c.args.number c.args.key c.args.value no_bucket c.requires.separate at.0 at.1
