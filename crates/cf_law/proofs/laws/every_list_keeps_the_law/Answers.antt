use Rattle.cf_law.proofs.Said.{every_list_keeps_the_law}
use Rattle.cf_law.proofs.laws.every_list_keeps_the_law.Goals as goal

pub returns : goal.returns
returns c = every_list_keeps_the_law
