use Rattle.std.proofs.Common.{◌∙◌}
use Rattle.cf_fold.proofs.Together.{quad_together}
use Rattle.cf_fold.proofs.quad.Quad.merge.Goals as goal

pub returns-clause-merged : goal.returns-clause-merged
returns-clause-merged c = λ xs ys p q. let together =
    quad_together xs ys _ _ (c.self.view_is ∙ p) (c.other.view_is ∙ q) c.if-self-eq0.false c.if-other-eq0.false in cc
