use Rattle.std.proofs.Common.{◌≡◌, ◌++◌, take}
use Rattle.std.specs.List.{flat_map}
use Rattle.cf_segments.specs.Segments.{HasLooked, seen_of}
use Rattle.cf_segments.proofs.Changing.{Changed}
use Rattle.cf_segments.proofs.segments.push_entries.Given as goal

abbrev pub invariant-loop-segment : goal.invariant-loop-segment
invariant-loop-segment l = record {
  looked : Changed HasLooked l.segment-index l.initial.segments l.segments;
  entries : l.entries.items ≡ l.initial.entries.items ++ flat_map seen_of (take l.segment-index l.initial.segments);
}
