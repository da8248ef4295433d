use Rattle.std.proofs.Common.{◌≡◌, ◌++◌, take}
use Rattle.std.specs.List.{flat_map}
use Rattle.cf_plain.specs.Order.{order_of}
use Rattle.cf_query.specs.Tags.{nums_of}
use Rattle.cf_segments.specs.Segments.{HasLooked, seen_of}
use Rattle.cf_segments.proofs.Changing.{Changed}
use Rattle.cf_segments.proofs.segments.push_each.Given as goal

abbrev pub invariant-loop-segment : goal.invariant-loop-segment
invariant-loop-segment g l = record {
  looked : Changed HasLooked l.segment-index l.initial.segments l.segments;
  nums : l.nums.items ≡ l.fn.nums.items ++ nums_of (flat_map seen_of (take l.segment-index l.initial.segments));
  writers : l.writers.items ≡ l.fn.writers.items ++ order_of (flat_map seen_of (take l.segment-index l.initial.segments));
}
