use Rattle.std.proofs.Common.{◌≡◌, drop}
use Rattle.cf_row.specs.Kept.{values_of}
use Rattle.cf_row.specs.Row.{values_fit}
use Rattle.cf_row.proofs.row.all_fit.Given as goal

abbrev pub invariant-loop-place : goal.invariant-loop-place
invariant-loop-place l = values_fit l.attrs (values_of l.values) ≡ values_fit (drop l.place l.attrs) (drop l.place (values_of l.values))
