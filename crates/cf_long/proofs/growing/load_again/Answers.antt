use Rattle.std.proofs.Common.{◌∙◌, [], All, arith, refl, subst, sym}
use Rattle.cf_row.specs.Row.{Fits}
use Rattle.cf_shape.specs.Lanes.{ShapeValue}
use Rattle.cf_load.specs.Planned.{IsSamePlan}
use Rattle.cf_load.specs.declared.plan.LivePlan.{LivePlan}
use Rattle.cf_fill.specs.Filling.{IsFilled}
use Rattle.cf_long.specs.Growing.{IsFilledAlone}
use Rattle.cf_long.proofs.Smaller.{let_go_as}
use Rattle.cf_long.proofs.Takes.{count_alone, room_alone}
use Rattle.cf_long.proofs.growing.load_again.Goals as goal

pub load_kept-requires-clause-fit : goal.load_kept-requires-clause-fit
load_kept-requires-clause-fit g c κs within =
    let alone = c.in_ok-filling.ensures [] refl in
    subst (λ (h : ShapeValue). All (Fits h.schema) c.args.kept.rows) (sym alone.shape_is) c.requires.fit

pub load_kept-requires-clause-filled : goal.load_kept-requires-clause-filled
load_kept-requires-clause-filled g c κs within = let alone = c.in_ok-filling.ensures [] refl in ([], alone.filled)

pub let_go-requires-clause-filled : goal.let_go-requires-clause-filled
let_go-requires-clause-filled g c κs within =
    let alone = c.in_ok-filling.ensures [] refl in (c.args.kept.rows, c.in_ok-load_kept.ensures.filled [] alone.filled)

pub let_go-requires-clause-few : goal.let_go-requires-clause-few
let_go-requires-clause-few g c κs within =
    let alone = c.in_ok-filling.ensures [] refl in
    let f = c.load_kept.new.log in
    let keeps = c.load_kept.ensures.keeps in
    let then : IsFilledAlone c.args.shape.now c.args.plan.now f c.args.kept.rows = record {
      shape_is = keeps.shape ∙ alone.shape_is;
      one = keeps.most ∙ alone.one;
      plan_is = subst (λ (p : LivePlan). IsSamePlan c.args.plan.now p) (sym keeps.plan) alone.plan_is;
      filled = c.in_ok-load_kept.ensures.filled [] alone.filled;
    } in
    let few = c.requires.few in
    omega (
      arith,
      few,
      count_alone c.args.shape.now c.args.plan.now f c.args.kept.rows then few,
      room_alone c.args.shape.now c.args.plan.now f c.args.kept.rows then,
    )

pub returns : goal.returns
returns g c = λ numbered.
    let alone = c.in_ok-filling.ensures [] refl in
    let f = c.load_kept.new.log in
    let keeps = c.load_kept.ensures.keeps in
    let filled : IsFilled f c.args.kept.rows = c.in_ok-load_kept.ensures.filled [] alone.filled in
    let plan : IsSamePlan c.args.plan.now f.loader.plan =
    subst (λ (p : LivePlan). IsSamePlan c.args.plan.now p) (sym keeps.plan) alone.plan_is in
    let_go_as (λ found. found.items) c.args.shape.now c.args.plan.now f.loader.plan f.segments.shape c.args.kept.rows c.let_go.result
    (keeps.shape ∙ alone.shape_is) plan (c.let_go.ensures c.args.kept.rows filled numbered)
