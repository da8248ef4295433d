use Rattle.std.proofs.Common.{◌≡◌, ◌∙◌, Bool, List, [], ap, ap₂, arith, refl, sym, subst}
use Rattle.cf_setup.specs.Setups.{shaped}
use Rattle.cf_shape.specs.Lanes.{IsShape, ShapeValue}
use Rattle.cf_segments.specs.Segments.{AllowsSegments}
use Rattle.cf_load.specs.Planned.{IsPlan}
use Rattle.cf_load.specs.declared.plan.LivePlan.{LivePlan}
use Rattle.cf_fill.specs.Logs.{IsPlanOf}
use Rattle.cf_fill.proofs.Logs.{plan_suits}
use Rattle.cf_project.specs.Named.{KeepsShape}
use Rattle.cf_project.specs.Projected.{shape_kept}
use Rattle.cf_project.specs.Setups.{KeepsSetup, setup_kept}
use Rattle.cf_project.proofs.LeftSetups.{setup_lawful}
use Rattle.cf_long.specs.Growing.{IsSmaller}
use Rattle.cf_long.specs.Kept.{IsLongFor, KeptLongValue}
use Rattle.cf_long.proofs.report.long_of.Goals as goal

pub kept_plan-requires : goal.kept_plan-requires
kept_plan-requires c = subst (λ (ms : List Bool). KeepsSetup ms c.args.setup.now) (sym c.deref.ensures.value) c.in_ok-kept.ensures.keeps

pub kept_shape-requires : goal.kept_shape-requires
kept_shape-requires c =
    subst (λ (ms : List Bool). KeepsShape ms c.in_ok-small.small) (sym c.deref-2.ensures.value)
    (subst (λ (h : ShapeValue). KeepsShape c.in_ok-kept.kept.items h) (sym c.in_ok-small.ensures)
    (c.in_ok-kept.ensures.keeps.shape c.args.capacity c.args.writers c.few_nodes.result))

pub kept_shape-requires-2 : goal.kept_shape-requires-2
kept_shape-requires-2 c =
    subst (λ (ms : List Bool). KeepsShape ms c.in_ok-shape.shape) (sym c.deref-3.ensures.value)
    (subst (λ (h : ShapeValue). KeepsShape c.in_ok-kept.kept.items h) (sym c.in_ok-shape.ensures)
    (c.in_ok-kept.ensures.keeps.shape c.args.capacity c.args.writers c.args.nodes))

pub new-requires : goal.new-requires
new-requires c =
    let setup = c.args.setup.now in
    let kept = c.in_ok-kept.kept.items in
    let whole = shaped setup c.args.capacity c.args.writers c.args.nodes in
    let part = shaped setup c.args.capacity c.args.writers c.few_nodes.result in
    let left : c.in_ok-left.left ≡ shape_kept kept whole =
    c.in_ok-left.ensures ∙ ap₂ (λ (ms : List Bool) (h : ShapeValue). shape_kept ms h) c.deref-3.ensures.value c.in_ok-shape.ensures in
    let small : c.in_ok-small_left.small_left ≡ shape_kept kept part =
    c.in_ok-small_left.ensures ∙ ap₂ (λ (ms : List Bool) (h : ShapeValue). shape_kept ms h) c.deref-2.ensures.value c.in_ok-small.ensures in
    let high = c.requires.capacity.1 in
    let few : IsSmaller (shape_kept kept whole) (shape_kept kept part) = record { same = refl; fewer = c.few_nodes.ensures } in
    let plan : IsPlanOf (setup_kept kept setup) 0 c.in_ok-plan.plan =
    subst (λ (ms : List Bool). IsPlanOf (setup_kept ms setup) 0 c.in_ok-plan.plan) c.deref.ensures.value c.in_ok-plan.ensures in
    record {
      smaller = subst (λ (h : ShapeValue). IsSmaller h c.in_ok-small_left.small_left) (sym left)
          (subst (λ (s : ShapeValue). IsSmaller (shape_kept kept whole) s) (sym small) few);
      allowed = subst (λ (h : ShapeValue). AllowsSegments h 1) (sym left)
          (record { some = omega arith; few = omega arith; rows = omega (arith, high); whole = λ many. absurd (omega (arith, many)) });
      plan = subst (λ (h : ShapeValue). IsPlan h c.in_ok-plan.plan) (sym left)
          (plan_suits (setup_kept kept setup) c.args.capacity c.args.writers c.args.nodes 0 c.in_ok-plan.plan
          (setup_lawful kept setup c.in_ok-kept.ensures.keeps c.requires.lawful) plan);
      quiet = plan.rounds_are;
    }

pub returns : goal.returns
returns c =
    let setup = c.args.setup.now in
    let kept = c.in_ok-kept.kept.items in
    let shape = c.in_ok-shape.shape in
    let log : KeptLongValue = record { kept = kept; shape = shape; long = c.in_ok-long.long } in
    let lawful = c.requires.lawful in
    let is_shape : IsShape (shaped setup c.args.capacity c.args.writers c.args.nodes) = record {
      schema = lawful.schema;
      few = lawful.few_lanes;
      capacity = c.requires.capacity;
      writers = c.requires.writers;
      nodes = c.requires.nodes;
      width = lawful.width;
      lanes = lawful.lanes;
    } in
    subst (λ (l : KeptLongValue). IsLongFor setup c.args.capacity c.args.writers c.args.nodes l []) (sym c.new-2.ensures) (record {
      shape = c.in_ok-shape.ensures;
      kept = c.in_ok-kept.ensures.named;
      asks = c.in_ok-kept.ensures.keeps.asks;
      plan = subst (λ (p : LivePlan). IsPlanOf (setup_kept kept setup) 0 p) (sym c.in_ok-long.ensures.plan)
          (subst (λ (ms : List Bool). IsPlanOf (setup_kept ms setup) 0 c.in_ok-plan.plan) c.deref.ensures.value c.in_ok-plan.ensures);
      is = record {
        lawful = subst IsShape (sym c.in_ok-shape.ensures) is_shape;
        keeps = subst (λ (h : ShapeValue). KeepsShape kept h) (sym c.in_ok-shape.ensures)
            (c.in_ok-kept.ensures.keeps.shape c.args.capacity c.args.writers c.args.nodes);
        shape_left = c.in_ok-long.ensures.shape ∙ (c.in_ok-left.ensures ∙ ap (λ (ms : List Bool). shape_kept ms shape) c.deref-3.ensures.value);
        is = c.in_ok-long.ensures.none;
      };
    })
