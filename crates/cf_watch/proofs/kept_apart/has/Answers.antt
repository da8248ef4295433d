use Rattle.std.proofs.Common.{◌∙◌, sym, ap}
use Rattle.std.proofs.lemmas.List.{get_or_default}
use Rattle.cf_watch.specs.Kept.{is_kept}
use Rattle.cf_watch.specs.Pairs.{ApartValue, no_bucket}
use Rattle.cf_watch.proofs.Placing.{no_pair, pair_of}
use Rattle.cf_watch.proofs.kept_apart.has.Goals as goal

pub returns-in-Some : goal.returns-in-Some
returns-in-Some c =
    let at = c.in-Some.ensures in
    let was = get_or_default c.args.buckets.now c.in-Some.place c.index-buckets-place.result no_bucket at.0 in
    c.has.ensures ∙ ap (λ (a : ApartValue). is_kept a.pairs c.args.key) (c.index-buckets-place.is ∙ was)
    ∙ sym (pair_of c.args.buckets.now c.in-Some.place c.args.number c.args.key no_bucket c.requires at.0 at.1)

pub returns-in-None : goal.returns-in-None
returns-in-None c = sym (no_pair c.args.buckets.now c.args.number c.args.key c.in-None.ensures)
