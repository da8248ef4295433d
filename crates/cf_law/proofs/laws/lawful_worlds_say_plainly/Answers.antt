use Rattle.cf_law.proofs.Said.{lawful_says_plainly}
use Rattle.cf_law.proofs.laws.lawful_worlds_say_plainly.Goals as goal

pub returns : goal.returns
returns c = lawful_says_plainly
