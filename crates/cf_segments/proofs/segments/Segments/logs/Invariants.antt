use Rattle.std.proofs.Common.{◌≡◌, map, take}
use Rattle.cf_scan.specs.Parts.{behind}
use Rattle.cf_segments.specs.Readers.{log_in}
use Rattle.cf_segments.proofs.segments.Segments.logs.Given as goal

abbrev pub invariant-loop-segment : goal.invariant-loop-segment
invariant-loop-segment l = record { logs : map behind l.logs.items ≡ map log_in (take l.segment-index (l.self).closed) }
