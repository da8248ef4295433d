use Rattle.std.proofs.Common.{arith, ◌∙◌, ap, ◌++◌, ◌∷◌, []}
use Rattle.std.proofs.lemmas.Slice.{put_mid-rotated}
use Rattle.std.proofs.lemmas.List.{length-set, get_or_default}
use Rattle.std.specs.List.{remove}
use Rattle.cf_watch.specs.Kept.{BucketValue, begun, with_record}
use Rattle.cf_watch.proofs.Taking.{moved}
use Rattle.cf_watch.proofs.kept.take_at.Goals as goal

pub returns : goal.returns
returns c =
    let len = length-set c.args.buckets.now c.args.place c.add.new.self in
    let was = get_or_default c.args.buckets.now c.args.place c.index-buckets-place.result (begun 0 0) c.requires.exists in
    put_mid-rotated _ _ _ _ (begun 0 0) (omega (arith, len, c.requires.exists)) (omega (arith, len)) c.rotate_left.ensures.after
    ∙ moved c.args.buckets.now c.args.place c.add.new.self (begun 0 0) c.requires.exists
    ∙ ap (λ (k : BucketValue). remove c.args.buckets.now c.args.place ++ k ∷ []) (c.add.ensures ∙ ap (λ (k : BucketValue). with_record c.args.value k) was)
