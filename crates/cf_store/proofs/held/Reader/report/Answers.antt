use Rattle.cf_store.proofs.Reported.{reports_alone}
use Rattle.cf_store.proofs.held.Reader.report.Goals as goal

pub returns : goal.returns
returns c = reports_alone c.args.self.now c.report_with.new.self c.report_with.new.rest c.report_with.result c.report_with.ensures
