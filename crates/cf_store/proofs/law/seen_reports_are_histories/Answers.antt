use Rattle.cf_store.proofs.Meant.{legal}
use Rattle.cf_store.proofs.law.seen_reports_are_histories.Goals as goal

pub returns : goal.returns
returns c = legal
