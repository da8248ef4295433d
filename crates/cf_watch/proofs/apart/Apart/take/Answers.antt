use Rattle.std.proofs.Common.{◌∙◌, ap, List}
use Rattle.cf_watch.specs.Kept.{BucketValue, begun}
use Rattle.cf_watch.specs.Pairs.{ApartValue, with_key}
use Rattle.cf_watch.proofs.Indexed.{key_at, key_found, took_key}
use Rattle.cf_watch.proofs.apart.Apart.take.Goals as goal

pub returns-in-Some-clause-ok : goal.returns-in-Some-clause-ok
returns-in-Some-clause-ok c =
    let pairs : List BucketValue = c.self.inside.pairs in
    let at = c.in-Some.ensures.place in
    let found = key_found pairs c.in-Some.place c.args.key (begun 0 0) at.0 at.1 in
    let new = c.add.ensures ∙ key_at pairs c.in-Some.place c.args.key c.args.value (begun 0 0) c.in-Some.ensures.apart at.0 at.1 in
    let apart : ApartValue = record { bucket = c.self.inside.number; pairs = pairs; crowded = c.self.inside.is_crowded; crowd_told = c.self.inside.is_crowd_told } in
    took_key apart c.add.new.self c.args.key c.args.value found new ∙ ap (λ (a : ApartValue). with_key c.args.key c.args.value a) c.self.view_is
