use Rattle.std.proofs.Common.{◌≡◌, ◌≤◌, ◌-◌, length, take}
use Rattle.cf_fill.specs.Filling.{LoadsWaiting}
use Rattle.cf_fill.proofs.filling.load_parts.Given as goal

abbrev pub invariant-loop-count : goal.invariant-loop-count
invariant-loop-count g l = record {
  within : l.count ≤ length l.rows;
  shape : l.segments.shape ≡ l.fn.segments.shape;
  most : l.segments.most ≡ l.fn.segments.most;
  plan : l.loader.plan ≡ l.fn.loader.plan;
  loads : LoadsWaiting (take l.count l.rows) l.fn.segments l.segments l.fn.loader l.loader;
}

abbrev pub decreases-loop-count : goal.decreases-loop-count
decreases-loop-count g l = length l.rows - l.count
