use Rattle.std.proofs.Common.{◌≡◌, ◌-◌, ◌/◌, ◌^◌, ◌<◌, ◌≤◌, ℕ}
use Rattle.cf_walk.proofs.tree.common_depth.Given as goal

abbrev pub invariant-loop-depth : goal.invariant-loop-depth
invariant-loop-depth l = record {
  most : l.depth ≤ l.fn.depth;
  longest : (d : ℕ) → l.depth < d → d ≤ l.fn.depth → l.before / 16 ^ (l.levels - d) ≡ l.key / 16 ^ (l.levels - d) → ⊥;
}

abbrev pub decreases-loop-depth : goal.decreases-loop-depth
decreases-loop-depth l = l.depth
