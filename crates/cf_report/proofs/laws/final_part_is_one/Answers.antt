use Rattle.cf_report.proofs.Same.{one_final}
use Rattle.cf_report.proofs.laws.final_part_is_one.Goals as goal

pub returns : goal.returns
returns c = one_final
