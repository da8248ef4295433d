-- The passes by which what the segments' roots have seen is read.
use Rattle.std.specs.Prelude.{◌≡◌, ◌≤◌, ◌^◌, List, length, map, All}
use Rattle.std.specs.List.{flat_map}
use Rattle.cf_scan.specs.Parts.{IsPart, entries_in}
use Rattle.cf_scan.specs.declared.parts.Part.{Part}
use Rattle.cf_table.specs.Values.{PassValue, LogValue}
use Rattle.cf_table.specs.Moves.{IsReading}
use Rattle.cf_segments.specs.Segments.{SegmentsValue, all_of, entries_of, seen_of}
use Rattle.cf_segments.specs.declared.segments.Segment.{Segment}

-- it reads the segment's log, and has seen what the segment's root has
pub record Reads (segment : Segment) (pass : PassValue) : Type 0 where
  pub is : IsReading segment.log pass
  pub seen : (pass.view).seen ≡ seen_of segment

-- the log of a segment
abbrev pub log_in : Segment → LogValue
log_in segment = segment.log

-- Each is a part of one of the segments' logs, and end to end they have the entries of all segments.
pub record ArePartsOf (s : SegmentsValue) (parts : List Part) : Type 0 where
  pub each : All (IsPart s.shape (map log_in (all_of s))) parts
  pub entries : flat_map entries_in parts ≡ entries_of s
  pub few : length (entries_of s) ≤ 2 ^ 20
