use Rattle.std.proofs.Common.{◌≡◌, map, drop}
use Rattle.cf_row.specs.declared.row.Value.TheVariants.{Num}
use Rattle.cf_row.specs.Row.{values_fit}
use Rattle.cf_store.proofs.writer.are_of.Given as goal

abbrev pub invariant-loop-place : goal.invariant-loop-place
invariant-loop-place l = values_fit l.attrs (map (λ n. Num n) l.numbers) ≡ values_fit (drop l.place l.attrs) (map (λ n. Num n) (drop l.place l.numbers))
