use Rattle.cf_fill.specs.Filling.{IsFilling}
use Rattle.cf_load_tests.proofs.take_tests.take_all.Given as goal

abbrev pub invariant-loop-part : goal.invariant-loop-part
invariant-loop-part g l = IsFilling l.filling
