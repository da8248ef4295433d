use Rattle.std.proofs.Common.{◌≡◌, ◌≤◌, ◌*◌, ◌∷◌, [], ◌++◌, length, map, take, All}
use Rattle.std.specs.List.{flat_map}
use Rattle.cf_scan.specs.Parts.{IsPart, entries_in}
use Rattle.cf_segments.specs.Readers.{log_in}
use Rattle.cf_segments.specs.Segments.{KeepsSegment, seen_of}
use Rattle.cf_segments.proofs.Changing.{Changed}
use Rattle.cf_segments.proofs.cuts.parts_of.Given as goal

abbrev pub invariant-loop-segment : goal.invariant-loop-segment
invariant-loop-segment g l = record {
  place : l.place ≡ l.segment-index;
  kept : Changed KeepsSegment l.segment-index l.initial.closed l.closed;
  each : All (IsPart (l.current.log).shape (map log_in (l.initial.closed ++ l.current ∷ []))) l.parts.items;
  entries : flat_map entries_in l.parts.items ≡ flat_map seen_of (take l.segment-index l.initial.closed);
  few : length (flat_map seen_of (take l.segment-index l.initial.closed)) ≤ (l.current.log).shape.capacity * l.segment-index;
}
