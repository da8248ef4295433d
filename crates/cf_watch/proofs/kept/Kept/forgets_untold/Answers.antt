use Rattle.std.proofs.Common.{◌≡◌, ◌≤◌, ◌∙◌, sym, ap, arith, false, length, List}
use Rattle.cf_watch.specs.Kept.{BucketValue, KeptValue, is_kept, most_kept}
use Rattle.cf_watch.specs.Marks.{forgets_untold}
use Rattle.cf_watch.proofs.Told.{none_at, untold_first}
use Rattle.cf_watch.proofs.kept.Kept.forgets_untold.Goals as goal

pub returns : goal.returns
returns c =
    let items : List BucketValue = c.self.inside.buckets.items in
    let none : is_kept items c.args.bucket ≡ false = rw c.deref.ensures.value at (none_at c.place_of.result _ _ (sym c.if-is_some.ensures) c.place_of.ensures) in
    let len : length items ≡ c.len.result = ap length (sym c.deref.ensures.value) ∙ c.deref.ensures.len ∙ sym c.len.ensures in
    let full : most_kept ≤ length items = omega (arith, len, c.if-len-lt-MOST_KEPT.false) in
    let untold = rw c.index.ensures at c.is_untold_for_any.ensures in
    untold_first c.args.lane c.args.triggers.now items c.args.bucket c.index.result.now c.is_untold_for_any.result full none untold
    ∙ ap (λ (v : KeptValue). forgets_untold c.args.lane c.args.triggers.now v.buckets c.args.bucket) c.self.view_is
