use Rattle.std.proofs.Common.{ℕ}
use Rattle.cf_store.specs.Merges.{IsToldQuad, quad_at}
use Rattle.cf_store.proofs.Merged.{each_more}
use Rattle.cf_store.proofs.merges.are_groups.Goals as goal

pub loop-k-preserved : goal.loop-k-preserved
loop-k-preserved c =
    each_more (λ (k : ℕ). IsToldQuad (quad_at c.args.words.now k)) c.loop-k.k c.loop-k.invariant (c.is_group_at.ensures.0 c.if-not-is_group_at.false)
