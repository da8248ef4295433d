use Rattle.cf_pcapng.proofs.Ruling.{steps_by_rules}
use Rattle.cf_pcapng.proofs.laws.blocks_are_judged_by_the_rules.Goals as goal

pub returns : goal.returns
returns c = steps_by_rules
