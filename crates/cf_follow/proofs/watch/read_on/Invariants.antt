use Rattle.std.proofs.Common.{◌≡◌, ◌≤◌, length}
use Rattle.cf_intake.specs.Reads.{view_by}
use Rattle.cf_rounds.specs.Held.{RoundsValue}
use Rattle.cf_follow.specs.Followed.{IsGoingOn, IsLeftOf, IsReady}
use Rattle.cf_follow.proofs.watch.read_on.Given as goal

abbrev pub invariant-loop-made : goal.invariant-loop-made
invariant-loop-made g l = record {
  going : (begun : RoundsValue) → IsReady begun l.initial.rounds l.initial.reads.left l.initial.reads.reads
      → (on : IsGoingOn l.initial.reads.reads.schema begun l.initial.reads.left.kept.items l.rounds l.reads.reads
      (view_by (g.F.Shelf.rest l.initial.shelf) (g.F.Shelf.moved l.initial.shelf))
      (view_by (g.F.Shelf.rest l.shelf) (g.F.Shelf.moved l.shelf)) (g.K.Sink.held l.initial.sink) (g.K.Sink.held l.sink)) × (length on.reads ≡ l._made);
  fit : IsLeftOf l.reads.left l.rounds l.reads.reads.schema;
  left : l.reads.left ≡ l.initial.reads.left;
  files : g.F.Shelf.files l.shelf ≡ g.F.Shelf.files l.initial.shelf;
  shelf_later : g.F.Shelf.faults l.initial.shelf ≤ g.F.Shelf.faults l.shelf;
  sink_later : g.K.Sink.faults l.initial.sink ≤ g.K.Sink.faults l.sink;
}
