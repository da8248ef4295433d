use Rattle.std.proofs.Common.{◌≡◌, ◌+◌, drop}
use Rattle.cf_row.specs.Expr.{atom_count}
use Rattle.cf_row.proofs.expr.are_few.Given as goal

abbrev pub invariant-loop-conjunction : goal.invariant-loop-conjunction
invariant-loop-conjunction l = atom_count l.conjunctions + l.room ≡ 32 + atom_count (drop l.conjunction-index l.conjunctions)
