use Rattle.std.proofs.Common.{◌≡◌, take}
use Rattle.cf_row.specs.Kept.{values_of}
use Rattle.cf_row.specs.Keeping.{keep}
use Rattle.cf_row.proofs.values.Values.marked.Given as goal

abbrev pub invariant-loop-place : goal.invariant-loop-place
invariant-loop-place l = l.left.items ≡ keep (take l.place l.kept) (take l.place (values_of l.self))
