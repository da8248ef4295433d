use Rattle.cf_table.specs.Values.{IsOf}
use Rattle.cf_log_tests.specs.Writers.{IsWriters}
use Rattle.cf_log_tests.proofs.lane_tests.compare.Given as goal

abbrev pub invariant-loop : goal.invariant-loop
invariant-loop g l = record { first : IsWriters l.fn.log 0 l.first; second : IsWriters l.fn.log 1 l.second; of : IsOf l.reader l.fn.log }
