use Rattle.std.proofs.Common.{◌≡◌, ◌*◌, ◌++◌, take}
use Rattle.cf_load.specs.Loaders.{IsLoading}
use Rattle.cf_load.specs.Planned.{tails_of}
use Rattle.cf_segments.specs.Segments.{SegmentsGoOn, told_of}
use Rattle.cf_load.proofs.loads.load_batches.Given as goal

abbrev pub invariant-loop-number : goal.invariant-loop-number
invariant-loop-number g l = record {
  same : SegmentsGoOn l.initial.segments l.segments;
  loading : IsLoading l.segments (take (4096 * l.number) l.rows) l.loader;
  plan : (l.loader).plan ≡ (l.initial.loader).plan;
  told : told_of l.segments ≡ told_of l.initial.segments ++ tails_of (l.loader).lives;
}
