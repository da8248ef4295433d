use Rattle.std.proofs.Common.{◌∙◌, List}
use Rattle.std.proofs.lemmas.List.{with_items_is}
use Rattle.cf_watch.specs.Pairs.{ApartValue}
use Rattle.cf_watch.proofs.PairsTold.{kept_crowds_told}
use Rattle.cf_watch.proofs.kept_apart.KeptApart.tell_crowded.Goals as goal

pub invariant_of-self : goal.invariant_of-self
invariant_of-self c =
    let items : List ApartValue = c.self.inside.buckets.items in
    let told = rw c.deref_mut.ensures.value at c.tell_crowds.ensures in
    rw (with_items_is c.self.inside.buckets c.tell_crowds.new.buckets (c.tell_crowds.auto.buckets ∙ c.deref_mut.ensures.len), told)
    (kept_crowds_told items c.self.inside.count c.self.invariant)
