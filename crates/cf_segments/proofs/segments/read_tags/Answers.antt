use Rattle.cf_segments.proofs.Chains.{each_none}
use Rattle.cf_segments.proofs.segments.read_tags.Goals as goal

pub returns-in_err-nums-clause-closed : goal.returns-in_err-nums-clause-closed
returns-in_err-nums-clause-closed g c = each_none c.args.closed.now

pub returns-in_err-writers-clause-closed : goal.returns-in_err-writers-clause-closed
returns-in_err-writers-clause-closed g c = each_none c.args.closed.now
