use Rattle.std.proofs.Common.{◌≡◌, ◌*◌, ◌≤◌, length, take}
use Rattle.cf_plain.specs.Segments.{finding_in}
use Rattle.cf_window.specs.Held.{rows_each}
use Rattle.cf_window.specs.Windows.{rows_in_all}
use Rattle.cf_window.proofs.find.find_in.Given as goal

abbrev pub invariant-loop-segment : goal.invariant-loop-segment
invariant-loop-segment l = record {
  same : l.segments ≡ l.initial.segments;
  count : l.count ≡ length (rows_in_all (rows_each (take l.segment-index l.initial.segments)));
  low : l.count ≤ l.segment-index * (l.fn.shape).capacity;
  found : l.found ≡ finding_in l.fn.shape l.ask (rows_in_all (rows_each (take l.segment-index l.initial.segments)));
}
