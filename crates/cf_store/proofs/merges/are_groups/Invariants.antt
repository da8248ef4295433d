use Rattle.std.proofs.Common.{◌<◌, ℕ}
use Rattle.cf_store.specs.Merges.{IsToldQuad, quad_at}
use Rattle.cf_store.proofs.merges.are_groups.Given as goal

abbrev pub invariant-loop-k : goal.invariant-loop-k
invariant-loop-k l = (k : ℕ) → k < l.k → IsToldQuad (quad_at l.words k)
