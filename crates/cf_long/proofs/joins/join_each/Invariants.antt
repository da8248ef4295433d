use Rattle.std.proofs.Common.{◌≡◌, ◌++◌}
use Rattle.std.specs.List.{AllZip}
use Rattle.std.specs.Vec.Iter.{into_iter_items}
use Rattle.cf_plain.specs.Segments.{CanJoin}
use Rattle.cf_long.specs.Found.{joined_each}
use Rattle.cf_long.proofs.joins.join_each.Given as goal

abbrev pub invariant-loop-finding : goal.invariant-loop-finding
invariant-loop-finding l = record {
  can : AllZip (CanJoin l.base) (into_iter_items l.finding-iterator) (into_iter_items l.behind);
  joined : l.all.items ++ joined_each l.base (into_iter_items l.finding-iterator) (into_iter_items l.behind) ≡ joined_each l.base l.fn.found.items l.fn.more.items;
}
