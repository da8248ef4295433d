use Rattle.std.proofs.Common.{◌≡◌, map, take}
use Rattle.cf_row.proofs.schema.attrs_of.Given as goal

abbrev pub invariant-loop-entry : goal.invariant-loop-entry
invariant-loop-entry l = l.attrs.items ≡ map (λ entry. record { name = entry.0.now; kind = entry.1 }) (take l.entry-index l.table)
