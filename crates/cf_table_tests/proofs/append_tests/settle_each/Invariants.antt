use Rattle.cf_table.specs.Values.{IsOf}
use Rattle.cf_append.specs.Appends.{Rests}
use Rattle.cf_table_tests.proofs.append_tests.settle_each.Given as goal

abbrev pub invariant-loop-case : goal.invariant-loop-case
invariant-loop-case g l = record { of : IsOf l.pass l.fn.log; rest : Rests l.pass.view }
