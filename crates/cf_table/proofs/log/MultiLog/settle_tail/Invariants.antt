use Rattle.std.proofs.Common.{◌-◌, length}
use Rattle.cf_table.proofs.Settling.{HasGone}
use Rattle.cf_table.proofs.log.MultiLog.settle_tail.Given as goal

abbrev pub invariant-loop-pass : goal.invariant-loop-pass
invariant-loop-pass g l = record { gone : HasGone (g.P.Pass.held l.fn.pass) (g.P.Pass.held l.pass) l.fn.steps l.steps }

abbrev pub decreases-loop-pass : goal.decreases-loop-pass
decreases-loop-pass g l = l.capacity - length (g.P.Pass.held l.pass).view.seen
