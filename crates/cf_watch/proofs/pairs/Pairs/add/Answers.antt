use Rattle.std.proofs.Common.{◌≡◌, ◌<◌, ap, arith, length, List}
use Rattle.cf_watch.specs.Kept.{BucketValue}
use Rattle.cf_watch.proofs.Indexed.{indexed_same, numbers_set}
use Rattle.cf_watch.proofs.Noted.{changed_set}
use Rattle.cf_watch.proofs.pairs.Pairs.add.Goals as goal

pub invariant_of-self : goal.invariant_of-self
invariant_of-self c =
    let items : List BucketValue = c.self.inside.items.items in
    let same : c.add.new.self.bucket ≡ c.index_mut-pair.result.now.bucket = ap (λ (k : BucketValue). k.bucket) c.add.ensures in
    let within : c.args.place < length items = omega (arith, ap (λ (ks : List BucketValue). length ks) c.self.view_is, c.requires.exists) in (
      indexed_same c.self.inside.places items _
          (numbers_set items c.args.place c.add.new.self c.index_mut-pair.result.now (rw c.index_mut-pair.ensures.value at same)) c.self.invariant.0,
      c.note.ensures items _ c.self.invariant.1 (changed_set items c.args.place c.add.new.self within),
    )
