use Rattle.std.proofs.Common.{◌≡◌, ◌*◌, ◌++◌, take, List, Some, slice_get, All}
use Rattle.std.specs.List.{flat_map}
use Rattle.cf_table.specs.Values.{LogValue}
use Rattle.cf_scan.specs.Parts.{IsPart, entries_in}
use Rattle.cf_scan.proofs.parts.push_parts.Given as goal

abbrev pub invariant-loop-chunk : goal.invariant-loop-chunk
invariant-loop-chunk l = record {
  root : l.root ≡ l.initial.root;
  entries : flat_map entries_in l.parts.items ≡ flat_map entries_in l.initial.parts.items ++ take (4096 * l.chunk) (l.initial.root.view).seen;
  are : (logs : List LogValue) → slice_get logs l.place ≡ Some l.log → All (IsPart l.log.shape logs) l.initial.parts.items
      → All (IsPart l.log.shape logs) l.parts.items;
}
