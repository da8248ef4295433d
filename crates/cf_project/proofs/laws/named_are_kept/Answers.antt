use Rattle.cf_project.proofs.Named.{asks_named, shape_named}
use Rattle.cf_project.proofs.laws.named_are_kept.Goals as goal

pub returns : goal.returns
returns c = λ shape questions lawful suit. (shape_named shape questions lawful suit, asks_named shape questions lawful suit)
