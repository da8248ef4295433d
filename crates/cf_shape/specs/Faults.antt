-- The first test of a shape that fails, in the order of the faults.
use Rattle.std.specs.Prelude.{◌≡◌, ℕ, ◌<◌, ◌≤◌, ◌^◌, ◌⊎◌, Bool, true, false, ◌&&◌, List, length, slice_get}
use Rattle.std.specs.List.{list_all}
use Rattle.std.specs.declared.option.Option.{Option}
use Rattle.std.specs.declared.option.Option.TheVariants.{Some, None}
use Rattle.cf_row.specs.declared.schema.Attr.{Attr}
use Rattle.cf_row.specs.declared.schema.Kind.{Kind}
use Rattle.cf_row.specs.Expr.{is_of_schema}
use Rattle.cf_shape.specs.declared.lane.Lane.{Lane}
use Rattle.cf_shape.specs.declared.lane.Key.{Key}
use Rattle.cf_shape.specs.declared.lane.Key.TheVariants as keys
use Rattle.cf_shape.specs.declared.shape.ShapeFault.{ShapeFault}
use Rattle.cf_shape.specs.declared.shape.ShapeFault.TheVariants.{TooManyLanes, BadCapacity, BadWriters, BadNodes, BadWidth, BytesKey, WideMeasure, Memory}
use Rattle.cf_shape.specs.Lanes.{ShapeValue, option_passes, is_lawful_key, is_lawful_measure}

-- every kind passes: what is asked is only that the attribute exists
abbrev pub any_kind : Kind → Bool
any_kind kind = true

-- the key's attribute exists
abbrev pub key_exists : List Attr → Key → Bool
key_exists attrs (keys.Attr attr) = option_passes any_kind (slice_get attrs attr)
key_exists attrs keys.Bucket = true
key_exists attrs (keys.BucketBy attr) = option_passes any_kind (slice_get attrs attr)

-- the attribute that is measured, by its place in the schema, exists; None measures nothing
abbrev pub measure_exists : List Attr → Option ℕ → Bool
measure_exists attrs None = true
measure_exists attrs (Some attr) = option_passes any_kind (slice_get attrs attr)

-- the lane's expression and attributes are of the schema
abbrev pub is_lane_of : List Attr → Lane → Bool
is_lane_of attrs lane = is_of_schema attrs lane.select && key_exists attrs lane.key && measure_exists attrs lane.measure

-- all lanes have expressions and attributes of the schema
abbrev pub are_lanes_of : List Attr → List Lane → Bool
are_lanes_of attrs lanes = list_all (is_lane_of attrs) lanes

-- lanes that have expressions and attributes of the schema alone
abbrev pub AreLanesOf : List Attr → List Lane → Type 0
AreLanesOf attrs lanes = are_lanes_of attrs lanes ≡ true

-- the number n is from low to high, both taken in
abbrev pub Within : ℕ → ℕ → ℕ → Type 0
Within low high n = (low ≤ n) × (n ≤ high)

-- the number n is below low or above high
abbrev pub Outside : ℕ → ℕ → ℕ → Type 0
Outside low high n = (n < low) ⊎ (high < n)

-- what the tests of the numbers of lanes, tickets, writers and nodes, and of the width, say
pub record AreGoodNumbers (l c w n b : ℕ) : Type 0 where
  pub few : l ≤ 16
  pub capacity : Within 1 65536 c
  pub writers : Within 1 15 w
  pub nodes : n ≤ 65536
  pub width : Within 1 (2 ^ 63) b

-- the first of the numbers that is out of range
abbrev pub HasNumberFault : ℕ → ℕ → ℕ → ℕ → ℕ → ShapeFault → Type 0
HasNumberFault lanes capacity writers nodes width TooManyLanes = 16 < lanes
HasNumberFault lanes capacity writers nodes width BadCapacity = (lanes ≤ 16) × Outside 1 65536 capacity
HasNumberFault lanes capacity writers nodes width BadWriters = (lanes ≤ 16) × Within 1 65536 capacity × Outside 1 15 writers
HasNumberFault lanes capacity writers nodes width BadNodes = (lanes ≤ 16) × Within 1 65536 capacity × Within 1 15 writers × (65536 < nodes)
HasNumberFault lanes capacity writers nodes width BadWidth =
    (lanes ≤ 16) × Within 1 65536 capacity × Within 1 15 writers × (nodes ≤ 65536) × Outside 1 (2 ^ 63) width
HasNumberFault lanes capacity writers nodes width BytesKey = ⊥
HasNumberFault lanes capacity writers nodes width WideMeasure = ⊥
HasNumberFault lanes capacity writers nodes width Memory = ⊥

-- no lane is filed by a byte string
abbrev pub have_good_keys : List Attr → List Lane → Bool
have_good_keys attrs lanes = list_all (λ lane. is_lawful_key attrs lane.key) lanes

-- each lane measures numbers below 2^32, or nothing
abbrev pub have_good_measures : List Attr → List Lane → Bool
have_good_measures attrs lanes = list_all (λ lane. is_lawful_measure attrs lane.measure) lanes

-- the shape's numbers of lanes, tickets, writers and nodes, and its width, are in range
abbrev pub HasGoodNumbers : ShapeValue → Type 0
HasGoodNumbers shape = AreGoodNumbers (length shape.lanes) shape.capacity shape.writers shape.nodes shape.width

-- The first test that fails. The making takes no memory.
abbrev pub HasFault : ShapeValue → ShapeFault → Type 0
HasFault shape TooManyLanes = HasNumberFault (length shape.lanes) shape.capacity shape.writers shape.nodes shape.width TooManyLanes
HasFault shape BadCapacity = HasNumberFault (length shape.lanes) shape.capacity shape.writers shape.nodes shape.width BadCapacity
HasFault shape BadWriters = HasNumberFault (length shape.lanes) shape.capacity shape.writers shape.nodes shape.width BadWriters
HasFault shape BadNodes = HasNumberFault (length shape.lanes) shape.capacity shape.writers shape.nodes shape.width BadNodes
HasFault shape BadWidth = HasNumberFault (length shape.lanes) shape.capacity shape.writers shape.nodes shape.width BadWidth
HasFault shape BytesKey = HasGoodNumbers shape × (have_good_keys shape.schema shape.lanes ≡ false)
HasFault shape WideMeasure = HasGoodNumbers shape × (have_good_keys shape.schema shape.lanes ≡ true) × (have_good_measures shape.schema shape.lanes ≡ false)
HasFault shape Memory = ⊥
