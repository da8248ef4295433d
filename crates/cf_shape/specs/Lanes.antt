-- Lanes: which rows each takes, by which key, and what it measures.
use Rattle.std.specs.Prelude.{◌≡◌, ℕ, ◌+◌, ◌*◌, ◌/◌, ◌≤◌, ◌^◌, Bool, true, false, ◌&&◌, List, [], length, slice_get, slice_index_or}
use Rattle.std.specs.List.{list_all}
use Rattle.std.specs.declared.option.Option.{Option}
use Rattle.std.specs.declared.option.Option.TheVariants.{Some, None}
use Rattle.cf_row.specs.declared.schema.Attr.{Attr}
use Rattle.cf_row.specs.declared.schema.Kind.{Kind}
use Rattle.cf_row.specs.declared.schema.Kind.TheVariants.{U8, U16, U32, U64, Bytes}
use Rattle.cf_row.specs.Expr.{holds_of, is_of_schema}
use Rattle.cf_row.specs.Row.{RowValue}
use Rattle.cf_row.specs.Schema.{IsSchema}
use Rattle.cf_row.specs.Times.{number_at, time_of}
use Rattle.cf_shape.specs.declared.lane.Lane.{Lane}
use Rattle.cf_shape.specs.declared.lane.Key.{Key}
use Rattle.cf_shape.specs.declared.lane.Key.TheVariants as keys

-- a log's shape as contracts see it
pub record ShapeValue : Type 0 where
  pub schema : List Attr
  pub lanes : List Lane
  pub capacity : ℕ
  pub writers : ℕ
  pub nodes : ℕ
  pub width : ℕ

-- takes no row, and stands where a lane doesn't exist
abbrev pub no_lane : Lane
no_lane = record { select = []; key = keys.Bucket; measure = None }

-- the lane of that number, from 0
abbrev pub lane_at : ShapeValue → ℕ → Lane
lane_at shape lane = slice_index_or shape.lanes lane no_lane

-- the lane takes the rows of which its expression holds
abbrev pub selected_by : ShapeValue → ℕ → RowValue → Bool
selected_by shape lane row = holds_of (lane_at shape lane).select row

-- a row's bucket: its time in whole widths
abbrev pub bucket_of : ShapeValue → RowValue → ℕ
bucket_of shape row = time_of shape.schema row / shape.width

-- what a row is filed under: its number at the key's attribute, or its bucket
abbrev pub key_by : ShapeValue → Key → RowValue → ℕ
key_by shape (keys.Attr attr) row = number_at row attr
key_by shape keys.Bucket row = bucket_of shape row
key_by shape (keys.BucketBy attr) row = bucket_of shape row

-- what a row is filed under in the lane of that number
abbrev pub key_of : ShapeValue → ℕ → RowValue → ℕ
key_of shape lane row = key_by shape (lane_at shape lane).key row

-- the key is the bucket with an attribute beside it
abbrev pub has_by : Key → Bool
has_by (keys.Attr attr) = false
has_by keys.Bucket = false
has_by (keys.BucketBy attr) = true

-- the row's number at the attribute beside the bucket, if the key has one
abbrev pub by_in : Key → RowValue → Option ℕ
by_in (keys.Attr attr) row = None
by_in keys.Bucket row = None
by_in (keys.BucketBy attr) row = Some (number_at row attr)

-- the same of the lane of that number
abbrev pub by_of : ShapeValue → ℕ → RowValue → Option ℕ
by_of shape lane row = by_in (lane_at shape lane).key row

-- A key, with another number beside it if there is one, as one number. These ascend by the key and then by the other; the key alone
-- is below 2^64, and with another number it is not.
abbrev pub both_keys : ℕ → Option ℕ → ℕ
both_keys key None = key
both_keys key (Some by) = (key + 1) * 2 ^ 64 + by

-- what the lane's groups go by: the row's key, with the number beside it if there is one
abbrev pub group_key : ShapeValue → ℕ → RowValue → ℕ
group_key shape lane row = both_keys (key_of shape lane row) (by_of shape lane row)

-- the row's number at the attribute that is measured, by its place in the schema; 0 where nothing is measured (None)
abbrev pub measure_by : Option ℕ → RowValue → ℕ
measure_by None row = 0
measure_by (Some attr) row = number_at row attr

-- what the lane of that number measures of a row, 0 where it measures nothing
abbrev pub measure_of : ShapeValue → ℕ → RowValue → ℕ
measure_of shape lane row = measure_by (lane_at shape lane).measure row

-- the attribute exists, and its kind passes
abbrev pub option_passes : (Kind → Bool) → Option Attr → Bool
option_passes passes None = false
option_passes passes (Some attr) = passes attr.kind

-- the kind is one of numbers
abbrev pub is_number : Kind → Bool
is_number (Bytes k) = false
is_number U8 = true
is_number U16 = true
is_number U32 = true
is_number U64 = true

-- numbers below 2^32
abbrev pub is_narrow : Kind → Bool
is_narrow (Bytes k) = false
is_narrow U8 = true
is_narrow U16 = true
is_narrow U32 = true
is_narrow U64 = false

-- the key is a number of the schema, by the place of its attribute, or the bucket, or the bucket with such a number
abbrev pub is_lawful_key : List Attr → Key → Bool
is_lawful_key attrs (keys.Attr attr) = option_passes is_number (slice_get attrs attr)
is_lawful_key attrs keys.Bucket = true
is_lawful_key attrs (keys.BucketBy attr) = option_passes is_number (slice_get attrs attr)

-- what is measured is an attribute of numbers below 2^32, by its place in the schema, or nothing (None)
abbrev pub is_lawful_measure : List Attr → Option ℕ → Bool
is_lawful_measure attrs None = true
is_lawful_measure attrs (Some attr) = option_passes is_narrow (slice_get attrs attr)

-- the lane's expression is of the schema, and its key and measure are lawful
abbrev pub is_lawful_lane : List Attr → Lane → Bool
is_lawful_lane attrs lane = is_of_schema attrs lane.select && is_lawful_key attrs lane.key && is_lawful_measure attrs lane.measure

-- a lawful shape: at most 16 lanes, 1 to 65536 tickets, 1 to 15 writers of at most 65536 nodes each, buckets of 1 to 2^63 nanoseconds
pub record IsShape (shape : ShapeValue) : Type 0 where
  pub schema : IsSchema shape.schema
  pub few : length shape.lanes ≤ 16
  pub capacity : (1 ≤ shape.capacity) × (shape.capacity ≤ 65536)
  pub writers : (1 ≤ shape.writers) × (shape.writers ≤ 15)
  pub nodes : shape.nodes ≤ 65536
  pub width : (1 ≤ shape.width) × (shape.width ≤ 2 ^ 63)
  pub lanes : list_all (is_lawful_lane shape.schema) shape.lanes ≡ true
