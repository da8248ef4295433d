use Rattle.std.proofs.Common.{sym, subst}
use Rattle.cf_shape.specs.Lanes.{ShapeValue}
use Rattle.cf_load.specs.Planned.{IsPlan}
use Rattle.cf_segments.specs.Segments.{AllowsSegments}
use Rattle.cf_fill.proofs.Logs.{plan_suits, segments_allowed}
use Rattle.cf_fill.proofs.log.opened.Goals as goal

pub new-requires-clause-allowed : goal.new-requires-clause-allowed
new-requires-clause-allowed c =
    subst (λ (s : ShapeValue). AllowsSegments s c.args.sizes.segments) (sym c.in_ok-shape.ensures)
    (segments_allowed c.args.setup.now c.args.sizes c.requires.sizes)

pub new-requires-clause-plan : goal.new-requires-clause-plan
new-requires-clause-plan c =
    let sizes = c.args.sizes in
    subst (λ (s : ShapeValue). IsPlan s c.in_ok-plan.plan) (sym c.in_ok-shape.ensures)
    (plan_suits c.args.setup.now sizes.capacity sizes.writers sizes.nodes c.args.rounds c.in_ok-plan.plan c.requires.lawful c.in_ok-plan.ensures)
