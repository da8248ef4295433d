use Rattle.cf_intake.proofs.OneSeries.{one_series}
use Rattle.cf_intake.proofs.laws.captures_have_one_end.Goals as goal

pub returns : goal.returns
returns c = one_series
