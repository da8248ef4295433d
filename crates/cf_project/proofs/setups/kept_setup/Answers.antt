use Rattle.std.proofs.Common.{◌∙◌, List, length, map, ap, arith, subst, sym}
use Rattle.cf_row.specs.declared.schema.Attr.{Attr}
use Rattle.cf_row.specs.Schema.{IsSchema}
use Rattle.cf_shape.specs.declared.lane.Lane.{Lane}
use Rattle.cf_plain.specs.declared.ask.Ask.{Ask}
use Rattle.cf_project.specs.Keeping.{keep}
use Rattle.cf_project.specs.Projected.{ask_kept, lane_kept}
use Rattle.cf_project.proofs.LeftSetups.{over_lawful, setup_lawful}
use Rattle.cf_project.proofs.setups.kept_setup.Goals as goal

pub kept_lanes-requires : goal.kept_lanes-requires
kept_lanes-requires c =
    let marks = (c.requires.shape 1 1 0).marks in let few = c.lanes.ensures.lawful.schema.few in omega (arith, marks, few)

pub kept_asks-requires : goal.kept_asks-requires
kept_asks-requires c =
    let marks = (c.requires.shape 1 1 0).marks in let few = c.lanes.ensures.lawful.schema.few in omega (arith, marks, few)

pub kept_attrs-requires : goal.kept_attrs-requires
kept_attrs-requires c =
    (c.requires.shape 1 1 0).marks ∙ sym (ap (λ (xs : List Attr). length xs) (c.attrs.ensures.attrs ∙ c.schema.ensures))

pub built_in-schema-requires : goal.built_in-schema-requires
built_in-schema-requires c =
    let given = c.attrs.ensures.attrs ∙ c.schema.ensures in
    subst (λ (xs : List Attr). IsSchema xs)
    (sym (c.in_ok-kept_attrs.ensures ∙ ap (λ (xs : List Attr). keep c.args.kept.now xs) given))
    (setup_lawful c.args.kept.now c.args.setup c.requires c.lanes.ensures.lawful).schema

pub over-requires : goal.over-requires
over-requires c =
    let kept = c.args.kept.now in
    let given = c.attrs.ensures.attrs ∙ c.schema.ensures in
    over_lawful kept c.args.setup c.requires c.lanes.ensures.lawful c.built_in-schema.result c.in_ok-lanes.lanes.items c.in_ok-asks.asks.items
    (c.built_in-schema.ensures ∙ (c.in_ok-kept_attrs.ensures ∙ ap (λ (xs : List Attr). keep kept xs) given))
    (c.in_ok-lanes.ensures ∙ ap (λ (ls : List Lane). map (lane_kept kept) ls) c.lanes.ensures.lanes)
    (c.in_ok-asks.ensures ∙ ap (λ (qs : List Ask). map (ask_kept kept) qs) c.asks.ensures.asks)
