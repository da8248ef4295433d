use Rattle.std.proofs.Common.{◌≡◌, map, take}
use Rattle.cf_row.specs.declared.row.Value.TheVariants.{Num}
use Rattle.cf_store.proofs.writer.row_of.Given as goal

abbrev pub invariant-loop-value : goal.invariant-loop-value
invariant-loop-value l = l.listed.items ≡ map (λ n. Num n) (take l.value-index l.values)
