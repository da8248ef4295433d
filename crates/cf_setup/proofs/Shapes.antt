-- The shape of a lawful setup has no fault.
use Rattle.std.proofs.Common.{◌≡◌, ◌⊎◌, ℕ, ◌<◌, ◌≤◌, ◌^◌, List, [], ◌∷◌, Bool, true, ◌&&◌, Option, Some, None, refl, sym, ◌∙◌, arith, inl, inr}
use Rattle.std.specs.List.{list_all}
use Rattle.std.proofs.lemmas.Bool.{and_parts, and_from, false≢true}
use Rattle.cf_row.specs.declared.schema.Attr.{Attr}
use Rattle.cf_row.specs.declared.schema.Kind.{Kind}
use Rattle.cf_row.specs.Expr.{is_of_schema}
use Rattle.cf_shape.specs.declared.lane.Lane.{Lane}
use Rattle.cf_shape.specs.declared.lane.Key.{Key}
use Rattle.cf_shape.specs.declared.lane.Key.TheVariants as keys
use Rattle.cf_shape.specs.declared.shape.ShapeFault.{ShapeFault}
use Rattle.cf_shape.specs.declared.shape.ShapeFault.TheVariants.{TooManyLanes, BadCapacity, BadWriters, BadNodes, BadWidth, BytesKey, WideMeasure, Memory}
use Rattle.cf_shape.specs.Lanes.{ShapeValue, option_passes, is_lawful_key, is_lawful_measure, is_lawful_lane, IsShape}
use Rattle.cf_shape.specs.Faults.{any_kind, key_exists, measure_exists, is_lane_of, AreLanesOf, HasFault, have_good_keys, have_good_measures}

exists : (passes : Kind → Bool) (o : Option Attr) → option_passes passes o ≡ true → option_passes any_kind o ≡ true
exists passes None h = absurd (false≢true h)
exists passes (Some attr) h = refl

key_is : (attrs : List Attr) (key : Key) → is_lawful_key attrs key ≡ true → key_exists attrs key ≡ true
key_is attrs (keys.Attr attr) h = exists _ _ h
key_is attrs keys.Bucket h = refl
key_is attrs (keys.BucketBy attr) h = exists _ _ h

measure_is : (attrs : List Attr) (measure : Option ℕ) → is_lawful_measure attrs measure ≡ true → measure_exists attrs measure ≡ true
measure_is attrs None h = refl
measure_is attrs (Some attr) h = exists _ _ h

pub record LaneParts (attrs : List Attr) (lane : Lane) : Type 0 where
  pub select : is_of_schema attrs lane.select ≡ true
  pub key : is_lawful_key attrs lane.key ≡ true
  pub measure : is_lawful_measure attrs lane.measure ≡ true

pub lane_parts : (attrs : List Attr) (lane : Lane) → is_lawful_lane attrs lane ≡ true → LaneParts attrs lane
lane_parts attrs lane h =
    let last = and_parts (is_of_schema attrs lane.select && is_lawful_key attrs lane.key) (is_lawful_measure attrs lane.measure) h in
    let first = and_parts (is_of_schema attrs lane.select) (is_lawful_key attrs lane.key) last.0 in
    record { select = first.0; key = first.1; measure = last.1 }

pub lanes_belong : (attrs : List Attr) (lanes : List Lane) → list_all (is_lawful_lane attrs) lanes ≡ true → AreLanesOf attrs lanes
lanes_belong attrs [] h = refl
lanes_belong attrs (lane ∷ lanes) h =
    let both = and_parts (is_lawful_lane attrs lane) (list_all (is_lawful_lane attrs) lanes) h in
    let parts = lane_parts attrs lane both.0 in
    and_from (is_lane_of attrs lane) (list_all (is_lane_of attrs) lanes)
    (and_from (is_of_schema attrs lane.select && key_exists attrs lane.key) (measure_exists attrs lane.measure)
    (and_from (is_of_schema attrs lane.select) (key_exists attrs lane.key) parts.select (key_is attrs lane.key parts.key))
    (measure_is attrs lane.measure parts.measure))
    (lanes_belong attrs lanes both.1)

good_keys : (attrs : List Attr) (lanes : List Lane) → list_all (is_lawful_lane attrs) lanes ≡ true → have_good_keys attrs lanes ≡ true
good_keys attrs [] h = refl
good_keys attrs (lane ∷ lanes) h =
    let both = and_parts (is_lawful_lane attrs lane) (list_all (is_lawful_lane attrs) lanes) h in
    let parts = lane_parts attrs lane both.0 in
    and_from (is_lawful_key attrs lane.key) (have_good_keys attrs lanes) parts.key (good_keys attrs lanes both.1)

good_measures : (attrs : List Attr) (lanes : List Lane) → list_all (is_lawful_lane attrs) lanes ≡ true → have_good_measures attrs lanes ≡ true
good_measures attrs [] h = refl
good_measures attrs (lane ∷ lanes) h =
    let both = and_parts (is_lawful_lane attrs lane) (list_all (is_lawful_lane attrs) lanes) h in
    let parts = lane_parts attrs lane both.0 in
    and_from (is_lawful_measure attrs lane.measure) (have_good_measures attrs lanes) parts.measure (good_measures attrs lanes both.1)

outside : (low high n : ℕ) → (low ≤ n) × (n ≤ high) → (n < low) ⊎ (high < n) → ⊥
outside low high n within (inl out) = let above = within.0 in omega (arith, out, above)
outside low high n within (inr out) = let below = within.1 in omega (arith, out, below)

pub no_fault : (shape : ShapeValue) → IsShape shape → (fault : ShapeFault) → HasFault shape fault → ⊥
no_fault shape is TooManyLanes h = let few = is.few in omega (arith, few, h)
no_fault shape is BadCapacity h = outside 1 65536 shape.capacity is.capacity h.1
no_fault shape is BadWriters h = outside 1 15 shape.writers is.writers h.2
no_fault shape is BadNodes h = let few = is.nodes in let over = h.3 in omega (arith, few, over)
no_fault shape is BadWidth h = outside 1 (2 ^ 63) shape.width is.width h.4
no_fault shape is BytesKey h = false≢true (sym h.1 ∙ good_keys shape.schema shape.lanes is.lanes)
no_fault shape is WideMeasure h = false≢true (sym h.2 ∙ good_measures shape.schema shape.lanes is.lanes)
no_fault shape is Memory h = h
