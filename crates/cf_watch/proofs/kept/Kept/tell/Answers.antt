use Rattle.std.proofs.Common.{◌≡◌, ◌∙◌, sym, ap, List, length, map, take, drop, ◌++◌, ℕ, false}
use Rattle.std.proofs.lemmas.List.{with_items_is}
use Rattle.cf_watch.specs.Kept.{BucketValue}
use Rattle.cf_watch.specs.Marks.{settled_count, telling, with_told}
use Rattle.cf_watch.proofs.Told.{kept_telling}
use Rattle.cf_watch.proofs.kept.Kept.tell.Goals as goal

pub invariant_of-self : goal.invariant_of-self
invariant_of-self c =
    let items : List BucketValue = c.self.inside.buckets.items in
    let told = rw c.deref_mut.ensures.value at c.tell_first.ensures in
    let count : c.settled_count-count.result ≡ settled_count c.args.trigger.now false (length items) =
    c.settled_count-count.ensures.is
    ∙ ap (settled_count c.args.trigger.now false) (c.len.ensures ∙ sym c.deref_mut.ensures.len ∙ ap length c.deref_mut.ensures.value) in
    let new : c.tell_first.new.buckets ≡ telling c.args.trigger.now c.args.place items =
    told ∙ ap (λ (n : ℕ). map (with_told c.args.trigger.now c.args.place) (take n items) ++ drop n items) count in
    rw (with_items_is c.self.inside.buckets c.tell_first.new.buckets (c.tell_first.auto.buckets ∙ c.deref_mut.ensures.len), new)
    (kept_telling c.args.trigger.now c.args.place items c.self.inside.count c.self.invariant)
