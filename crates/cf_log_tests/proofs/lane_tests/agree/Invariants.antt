use Rattle.cf_table.specs.Values.{IsOf}
use Rattle.cf_log_tests.proofs.lane_tests.agree.Given as goal

abbrev pub invariant-loop-question : goal.invariant-loop-question
invariant-loop-question g l = record { of : IsOf (g.P.Pass.held l.pass) l.fn.log }
