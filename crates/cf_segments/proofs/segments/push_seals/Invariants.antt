use Rattle.std.proofs.Common.{◌≡◌, ◌≤◌, ◌+◌, ◌++◌, length, map, vec_capacity, All}
use Rattle.std.specs.Vec.Iter.{into_iter_items, into_iter_len}
use Rattle.cf_shape.specs.Lanes.{ShapeValue}
use Rattle.cf_segments.specs.Segments.{IsSegment, sealed}
use Rattle.cf_segments.proofs.segments.push_seals.Given as goal

abbrev pub invariant-loop-segment : goal.invariant-loop-segment
invariant-loop-segment l = record {
  each : (shape : ShapeValue) × All (IsSegment shape) (into_iter_items l.segment-iterator);
  room : length l.seals.items + length (into_iter_items l.segment-iterator) ≤ vec_capacity l.seals;
  capacity : vec_capacity l.seals ≡ vec_capacity l.initial.seals;
  len : into_iter_len l.segment-iterator ≡ length (into_iter_items l.segment-iterator);
  seals : l.seals.items ++ map sealed (into_iter_items l.segment-iterator) ≡ l.initial.seals.items ++ map sealed l.fn.segments.items;
}
