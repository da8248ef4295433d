use Rattle.std.proofs.Common.{◌≡◌, take}
use Rattle.cf_row.proofs.expr.copies.Given as goal

abbrev pub invariant-loop-conjunction : goal.invariant-loop-conjunction
invariant-loop-conjunction l = l.copied.items ≡ take l.conjunction-index l.conjunctions
