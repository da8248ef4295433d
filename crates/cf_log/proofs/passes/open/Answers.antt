use Rattle.std.proofs.Common.{◌∙◌}
use Rattle.cf_log.proofs.Writers.{opened}
use Rattle.cf_log.proofs.passes.open.Goals as goal

pub returns : goal.returns
returns c = opened _ _ c.in_ok-log.root (c.in_ok-log.ensures.shape ∙ c.in_ok-shape.ensures) c.in_ok-log.ensures.root c.in_ok-writers.ensures.dealt
