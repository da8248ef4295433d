use Rattle.cf_intake.proofs.OneCase.{one_case}
use Rattle.cf_intake.proofs.laws.each_file_is_in_one_case.Goals as goal

pub returns : goal.returns
returns c = one_case
