use Rattle.std.proofs.Common.{◌≡◌, map, take}
use Rattle.cf_run.proofs.snapshot.tags_of.Given as goal

abbrev pub invariant-loop-row : goal.invariant-loop-row
invariant-loop-row l = record {
  nums : l.nums.items ≡ map (λ row. row.num) (take l.row-index l.rows);
  writers : l.writers.items ≡ map (λ row. 0) (take l.row-index l.rows);
}
