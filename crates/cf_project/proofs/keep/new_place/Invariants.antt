use Rattle.std.proofs.Common.{◌≡◌}
use Rattle.cf_project.specs.Keeping.{new_place}
use Rattle.cf_project.proofs.keep.new_place.Given as goal

abbrev pub invariant-loop-index : goal.invariant-loop-index
invariant-loop-index l = l.before ≡ new_place l.kept l.index
