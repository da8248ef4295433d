use Rattle.std.proofs.Common.{◌≡◌, ◌∙◌, ℕ, Bool, List, ap, map, subst, sym}
use Rattle.cf_row.specs.declared.schema.Attr.{Attr}
use Rattle.cf_row.specs.Schema.{IsSchema}
use Rattle.cf_shape.specs.Faults.{AreLanesOf, HasFault}
use Rattle.cf_shape.specs.Lanes.{IsShape, ShapeValue}
use Rattle.cf_shape.specs.declared.shape.ShapeFault.{ShapeFault}
use Rattle.cf_shape.specs.declared.lane.Lane.{Lane}
use Rattle.cf_project.specs.Keeping.{keep}
use Rattle.cf_project.specs.Projected.{lane_kept, shape_kept}
use Rattle.cf_setup.proofs.Shapes.{lanes_belong, no_fault}
use Rattle.cf_project.proofs.Meant.{shape_lawful}
use Rattle.cf_project.proofs.Schemas.{schema_kept}
use Rattle.cf_project.proofs.keep.kept_shape.Goals as goal

-- the schema and the lanes that are made are those of the shape that is left
schema_left : (kept : List Bool) (shape : ShapeValue) (attrs given : List Attr) → attrs ≡ keep kept given → given ≡ shape.schema
    → attrs ≡ (shape_kept kept shape).schema
schema_left kept shape attrs given is same = is ∙ ap (λ (xs : List Attr). keep kept xs) same

lanes_left : (kept : List Bool) (shape : ShapeValue) (lanes given : List Lane) → lanes ≡ map (lane_kept kept) given → given ≡ shape.lanes
    → lanes ≡ (shape_kept kept shape).lanes
lanes_left kept shape lanes given is same = is ∙ ap (λ (ls : List Lane). map (lane_kept kept) ls) same

belong_left : (less : ShapeValue) (attrs : List Attr) (lanes : List Lane) → IsShape less → attrs ≡ less.schema → lanes ≡ less.lanes → AreLanesOf attrs lanes
belong_left less attrs lanes lawful schema same =
    subst (λ (xs : List Attr). AreLanesOf xs lanes) (sym schema)
    (subst (λ (ls : List Lane). AreLanesOf less.schema ls) (sym same) (lanes_belong less.schema less.lanes lawful.lanes))

none_left : (less : ShapeValue) (attrs : List Attr) (lanes : List Lane) (fault : ShapeFault) → IsShape less → attrs ≡ less.schema → lanes ≡ less.lanes
    → HasFault (record less { schema = attrs; lanes = lanes }) fault → ⊥
none_left less attrs lanes fault lawful schema same is =
    no_fault (record less { schema = attrs; lanes = lanes })
    (subst (λ (xs : List Attr). IsShape (record less { schema = xs; lanes = lanes })) (sym schema)
    (subst (λ (ls : List Lane). IsShape (record less { schema = less.schema; lanes = ls })) (sym same) lawful)) fault is

-- the shape with these sizes, which are its own
abbrev with_sizes : ShapeValue → ℕ → ℕ → ℕ → ℕ → ShapeValue
with_sizes less capacity writers nodes width =
    record { schema = less.schema; lanes = less.lanes; capacity = capacity; writers = writers; nodes = nodes; width = width }

sized_left : (less : ShapeValue) (capacity writers nodes width : ℕ) → IsShape less → capacity ≡ less.capacity → writers ≡ less.writers → nodes ≡ less.nodes
    → width ≡ less.width → IsShape (with_sizes less capacity writers nodes width)
sized_left less capacity writers nodes width lawful c w n b =
    subst (λ (x : ℕ). IsShape (with_sizes less x writers nodes width)) (sym c)
    (subst (λ (x : ℕ). IsShape (with_sizes less less.capacity x nodes width)) (sym w)
    (subst (λ (x : ℕ). IsShape (with_sizes less less.capacity less.writers x width)) (sym n)
    (subst (λ (x : ℕ). IsShape (with_sizes less less.capacity less.writers less.nodes x)) (sym b) lawful)))

pub built_in-schema-requires : goal.built_in-schema-requires
built_in-schema-requires c =
    let kept = c.args.kept.now in
    let shape = c.args.shape.now in
    let given = c.attrs.ensures.attrs ∙ c.schema.ensures in
    subst (λ (xs : List Attr). IsSchema xs) (sym (c.in_ok-kept_attrs.ensures ∙ ap (λ (xs : List Attr). keep kept xs) given))
    (schema_kept kept shape.schema (subst (λ (xs : List Attr). IsSchema xs) c.schema.ensures c.attrs.ensures.lawful) c.requires.stamp)

pub new-requires : goal.new-requires
new-requires c =
    let kept = c.args.kept.now in
    let shape = c.args.shape.now in
    let made = c.built_in-schema.ensures ∙ schema_left kept shape c.in_ok-kept_attrs.field-0.items c.attrs.result.now c.in_ok-kept_attrs.ensures (c.attrs.ensures.attrs ∙ c.schema.ensures) in
    let lanes = lanes_left kept shape c.in_ok-lanes.lanes.items c.lanes.result.now c.in_ok-lanes.ensures c.lanes.ensures.lanes in
    record {
      belong = belong_left (shape_kept kept shape) c.built_in-schema.result c.in_ok-lanes.lanes.items (shape_lawful kept shape c.requires c.lanes.ensures.lawful)
          made lanes;
    }

pub unreachable-requires : goal.unreachable-requires
unreachable-requires c =
    let kept = c.args.kept.now in
    let shape = c.args.shape.now in
    let made = c.built_in-schema.ensures ∙ schema_left kept shape c.in_ok-kept_attrs.field-0.items c.attrs.result.now c.in_ok-kept_attrs.ensures (c.attrs.ensures.attrs ∙ c.schema.ensures) in
    let lanes = lanes_left kept shape c.in_ok-lanes.lanes.items c.lanes.result.now c.in_ok-lanes.ensures c.lanes.ensures.lanes in
    none_left (with_sizes (shape_kept kept shape) c.capacity.result c.writers.result c.nodes.result c.width.result) c.built_in-schema.result
    c.in_ok-lanes.lanes.items c.in-Err.field-0
    (sized_left (shape_kept kept shape) c.capacity.result c.writers.result c.nodes.result c.width.result
    (shape_lawful kept shape c.requires c.lanes.ensures.lawful) c.capacity.ensures.capacity c.writers.ensures.writers c.nodes.ensures.nodes
    c.width.ensures.width) made lanes c.in-Err.ensures.answer
