use Rattle.std.proofs.Common.{◌∙◌, ap}
use Rattle.cf_shape.specs.Lanes.{ShapeValue}
use Rattle.cf_store.proofs.Spanned.{covered_by}
use Rattle.cf_store.proofs.ends.covered_in.Goals as goal

pub returns : goal.returns
returns c =
    covered_by c.args.shared.now.log.shape.capacity c.capacity-capacity.result c.args.first.now c.args.rest.now c.last_seen-last.result _ _
    (c.capacity-capacity.ensures.capacity ∙ ap (λ (s : ShapeValue). s.capacity) c.shape.ensures.shape) c.last_seen-last.ensures c.if-last-eq0.false
    c.covered-more.ensures
