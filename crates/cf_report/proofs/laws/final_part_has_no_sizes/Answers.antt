use Rattle.cf_report.proofs.Sizes.{any_sizes}
use Rattle.cf_report.proofs.laws.final_part_has_no_sizes.Goals as goal

pub returns : goal.returns
returns c = any_sizes
