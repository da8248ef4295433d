use Rattle.std.proofs.lemmas.List.Elements.{All-weaker}
use Rattle.cf_watch.specs.Kept.{AreApart}
use Rattle.cf_watch.specs.Pairs.{IsApart}
use Rattle.cf_watch.specs.PairLaws.{after_pair_steps}
use Rattle.cf_watch.proofs.PairSteps.{lawful}
use Rattle.cf_watch.proofs.laws.few_pairs_are_kept.Goals as goal

pub returns : goal.returns
returns c = λ steps.
    let is = lawful steps in
    record {
      buckets = is.1.few;
      pairs = is.1.bounded;
      separate = is.1.separate;
      apart = All-weaker (IsApart is.0) (λ a. AreApart a.pairs) (λ a one. one.different) (after_pair_steps steps) is.1.apart;
    }
