use Rattle.std.proofs.Common.{arith, ◌∙◌, ap, ◌++◌, ◌∷◌, []}
use Rattle.std.proofs.lemmas.Slice.{put_mid-rotated}
use Rattle.std.proofs.lemmas.List.{length-set, get_or_default}
use Rattle.std.specs.List.{remove}
use Rattle.cf_watch.specs.Pairs.{ApartValue, no_bucket, with_key}
use Rattle.cf_watch.proofs.Taking.{moved}
use Rattle.cf_watch.proofs.kept_apart.take_at.Goals as goal

pub returns-clause-ok : goal.returns-clause-ok
returns-clause-ok c =
    let len = length-set c.args.buckets.now c.args.place c.take.new.self in
    let was = get_or_default c.args.buckets.now c.args.place c.index-buckets-place.result no_bucket c.requires.exists in
    put_mid-rotated _ _ _ _ no_bucket (omega (arith, len, c.requires.exists)) (omega (arith, len)) c.rotate_left.ensures.after
    ∙ moved c.args.buckets.now c.args.place c.take.new.self no_bucket c.requires.exists
    ∙ ap (λ (a : ApartValue). remove c.args.buckets.now c.args.place ++ a ∷ [])
    (c.in_ok-take.ensures.ok ∙ ap (λ (a : ApartValue). with_key c.args.key c.args.value a) was)
