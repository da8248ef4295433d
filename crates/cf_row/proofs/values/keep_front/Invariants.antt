use Rattle.cf_row.proofs.Fronts.{IsFront}
use Rattle.cf_row.proofs.values.keep_front.Given as goal

abbrev pub invariant-loop-place : goal.invariant-loop-place
invariant-loop-place g l = IsFront l.kept l.initial.items l.items l.count l.place
