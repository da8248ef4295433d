use Rattle.std.proofs.Common.{◌≡◌, ◌∙◌, length, ◌<◌, get_or}
use Rattle.std.proofs.lemmas.List.{with_items_is}
use Rattle.cf_watch.specs.Kept.{begun}
use Rattle.cf_watch.proofs.Taking.{taken_at}
use Rattle.cf_watch.proofs.kept.take_into.Goals as goal

pub returns-in-Some-clause-ok : goal.returns-in-Some-clause-ok
returns-in-Some-clause-ok c =
    let taken = rw c.deref_mut.ensures.value at c.take_at.ensures in
    let at : (c.in-Some.place < length c.args.buckets.now.items) × ((get_or c.args.buckets.now.items c.in-Some.place (begun 0 0)).bucket ≡ c.args.number) =
    rw c.deref.ensures.value at c.in-Some.ensures in
    with_items_is c.args.buckets.now c.take_at.new.buckets (c.take_at.auto.buckets ∙ c.deref_mut.ensures.len)
    ∙ taken
    ∙ taken_at c.args.buckets.now.items c.in-Some.place c.args.number c.args.value (begun 0 0) c.requires.apart at.0 at.1
