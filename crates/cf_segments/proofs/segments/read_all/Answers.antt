use Rattle.cf_segments.proofs.Chains.{each_none}
use Rattle.cf_segments.proofs.segments.read_all.Goals as goal

pub returns-in_err-entries-clause-closed : goal.returns-in_err-entries-clause-closed
returns-in_err-entries-clause-closed c = each_none c.args.closed.now
