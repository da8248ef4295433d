use Rattle.cf_report.proofs.Answering.{are_answering}
use Rattle.cf_report.proofs.Reported.{report_is, final_is}
use Rattle.cf_report.proofs.laws.meant_answers_make_reports.Goals as goal

pub returns : goal.returns
returns c = record { whole = report_is; final = final_is; answering = are_answering }
