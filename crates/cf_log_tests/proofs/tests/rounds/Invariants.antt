use Rattle.cf_log_tests.specs.Writers.{IsWriters}
use Rattle.cf_log_tests.proofs.tests.rounds.Given as goal

abbrev pub invariant-loop-question : goal.invariant-loop-question
invariant-loop-question g l = record { ready : IsWriters l.fn.log l.writer l.pass }
