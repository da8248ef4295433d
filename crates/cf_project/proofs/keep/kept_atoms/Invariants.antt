use Rattle.std.proofs.Common.{◌≡◌, map, take}
use Rattle.cf_project.specs.Projected.{atom_kept}
use Rattle.cf_project.proofs.keep.kept_atoms.Given as goal

abbrev pub invariant-loop-atom : goal.invariant-loop-atom
invariant-loop-atom l = l.left.items ≡ map (atom_kept l.kept) (take l.atom-index l.atoms)
