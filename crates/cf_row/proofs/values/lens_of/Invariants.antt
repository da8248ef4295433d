use Rattle.std.proofs.Common.{◌≡◌, map, take, length}
use Rattle.cf_row.specs.declared.schema.TheConstants.{MOST_ATTRS}
use Rattle.cf_row.specs.Kept.{len_of as len_of_kind}
use Rattle.cf_row.proofs.values.lens_of.Given as goal

abbrev pub invariant-loop-place : goal.invariant-loop-place
invariant-loop-place l = record { long : length l.lens ≡ MOST_ATTRS; kept : take l.place l.lens ≡ map (λ attr. len_of_kind attr.kind) (take l.place l.attrs) }
