use Rattle.std.proofs.Common.{◌≡◌, All, length, map}
use Rattle.std.specs.Vec.Iter.{into_iter_items}
use Rattle.cf_long.specs.ByRow.{IsFoundWithin, by_row}
use Rattle.cf_long.proofs.order.all_by_row.Given as goal

abbrev pub invariant-loop-finding : goal.invariant-loop-finding
invariant-loop-finding l = record {
  rest : All (IsFoundWithin (length l.nums)) (into_iter_items l.finding-iterator);
  told : l.told.items ≡ map (by_row l.first l.nums) l.yielded;
}
