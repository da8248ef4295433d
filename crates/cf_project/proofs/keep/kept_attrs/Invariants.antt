use Rattle.std.proofs.Common.{◌≡◌, take}
use Rattle.cf_project.specs.Keeping.{keep}
use Rattle.cf_project.proofs.keep.kept_attrs.Given as goal

abbrev pub invariant-loop-place : goal.invariant-loop-place
invariant-loop-place l = l.left.items ≡ keep (take l.place l.kept) (take l.place l.attrs)
