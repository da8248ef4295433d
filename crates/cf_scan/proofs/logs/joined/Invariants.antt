use Rattle.std.proofs.Common.{◌≡◌, ◌+◌, ◌≤◌, ◌^◌, length, All}
use Rattle.std.specs.List.{flat_map}
use Rattle.std.specs.Vec.Iter.{into_iter_items}
use Rattle.cf_plain.specs.Asks.{rows_in}
use Rattle.cf_plain.specs.Segments.{finding_in}
use Rattle.cf_scan.specs.Parts.{IsScanned, entries_in}
use Rattle.cf_scan.proofs.logs.joined.Given as goal

abbrev pub invariant-loop-part : goal.invariant-loop-part
invariant-loop-part l = record {
  rest : All (IsScanned l._shape l.ask) (into_iter_items l.part-iterator);
  few : length (flat_map entries_in l.yielded) + length (flat_map entries_in (into_iter_items l.part-iterator)) ≤ 2 ^ 20;
  count : l.count ≡ length (flat_map entries_in l.yielded);
  all : l.all ≡ finding_in l._shape l.ask (rows_in (flat_map entries_in l.yielded));
}
