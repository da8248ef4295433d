use Rattle.std.proofs.Common.{◌≡◌, map, take}
use Rattle.cf_project.specs.Projected.{atom_kept}
use Rattle.cf_project.proofs.keep.kept_expr.Given as goal

abbrev pub invariant-loop-conjunction : goal.invariant-loop-conjunction
invariant-loop-conjunction l = l.left.items ≡ map (map (atom_kept l.kept)) (take l.conjunction-index l.conjunctions)
