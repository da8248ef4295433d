use Rattle.std.proofs.Common.{◌≡◌, length, map, take, drop}
use Rattle.cf_store.specs.Values.{plain_of}
use Rattle.cf_store.proofs.values.show_row.Given as goal

abbrev pub invariant-loop-k : goal.invariant-loop-k
invariant-loop-k l = record {
  front : take l.k l.out ≡ take l.k (map plain_of (l.row).values);
  after : drop l.k l.out ≡ drop l.k l.fn.out;
  long : length l.out ≡ length l.fn.out;
}
