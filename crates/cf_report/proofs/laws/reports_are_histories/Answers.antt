use Rattle.cf_report.proofs.Legal.{report_history}
use Rattle.cf_report.proofs.laws.reports_are_histories.Goals as goal

pub returns : goal.returns
returns c = report_history
