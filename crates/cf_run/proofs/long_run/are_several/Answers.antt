use Rattle.std.proofs.Common.{sym}
use Rattle.cf_run.proofs.Lengths.{several_more}
use Rattle.cf_run.proofs.long_run.are_several.Goals as goal

pub returns : goal.returns
returns c = sym (several_more c.args.names.now c.if-names-eq1.false)
