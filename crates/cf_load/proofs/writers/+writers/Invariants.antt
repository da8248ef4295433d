use Rattle.std.proofs.Common.{length}
use Rattle.cf_load.proofs.writers.+writers.Given as goal

abbrev pub decreases-join_mut+arg2 : goal.decreases-join_mut+arg2
decreases-join_mut+arg2 g l = length l.front.now

abbrev pub decreases-join_mut+arg3 : goal.decreases-join_mut+arg3
decreases-join_mut+arg3 g l = length l.back.now

abbrev pub decreases-run_writers : goal.decreases-run_writers
decreases-run_writers g l = length l.passes.now
