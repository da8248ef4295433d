use Rattle.cf_pcapng.proofs.Filing.{file_by_rules}
use Rattle.cf_pcapng.proofs.laws.files_are_judged_by_the_rules.Goals as goal

pub returns : goal.returns
returns c = file_by_rules
