use Rattle.std.proofs.Common.{take}
use Rattle.std.specs.List.{AllZip}
use Rattle.cf_segments.specs.Readers.{Reads}
use Rattle.cf_segments.specs.Segments.{KeepsSegment}
use Rattle.cf_segments.proofs.Changing.{Changed}
use Rattle.cf_segments.proofs.readers.readers_of.Given as goal

abbrev pub invariant-loop-segment : goal.invariant-loop-segment
invariant-loop-segment g l = record {
  kept : Changed KeepsSegment l.segment-index l.initial.closed l.closed;
  read : AllZip Reads (take l.segment-index l.initial.closed) l.readers.items;
}
