-- What names stand for after the statements so far.
use Rattle.std.specs.Prelude.{ℕ, Bool, ◌&&◌, ◌||◌, not, List, Option, Some, None, position, slice_get, is_some, if◌then◌else◌}
use Rattle.std.specs.List.{list_any}
use Rattle.std.specs.Option.{option_map}
use Rattle.std.specs.Str.{bytes_eq}
use Rattle.cf_row.specs.declared.schema.Attr.{Attr}
use Rattle.cf_row.specs.declared.schema.Kind.{Kind}
use Rattle.cf_fold.specs.declared.trigger.Trigger.{Trigger}
use Rattle.cf_shape.specs.declared.lane.Lane.{Lane}
use Rattle.cf_shape.specs.declared.lane.Key.{Key}
use Rattle.cf_shape.specs.declared.lane.Key.TheVariants as keys
use Rattle.cf_shape.specs.Lanes.{has_by}
use Rattle.cf_plain.specs.Asks.{is_attr}
use Rattle.cf_filter.specs.Values.{◌>>=◌}
use Rattle.cf_plain.specs.declared.ask.Ask.{Ask}
use Rattle.cf_plain.specs.declared.ask.Ask.TheVariants as asks
use Rattle.cf_setup.specs.declared.ask_buckets.Buckets.{Buckets}
use Rattle.cf_setup.specs.declared.ask_buckets.Buckets.TheVariants as buckets
use Rattle.cf_setup.specs.declared.draft.Family.{Family}
use Rattle.cf_setup.specs.declared.draft.Family.TheVariants as families
use Rattle.cf_setup.specs.Drafts.{DraftValue, attrs_of}

-- the place of a name
abbrev pub place_in : List (List ℕ) → List ℕ → Option ℕ
place_in names name = position (λ other. bytes_eq other name) names

-- some name is this one
abbrev pub is_among : List (List ℕ) → List ℕ → Bool
is_among names name = list_any (λ other. bytes_eq other name) names

-- lanes, triggers and asks have their names in one space
abbrev pub is_taken : DraftValue → List ℕ → Bool
is_taken before name = (is_among before.lane_names name || is_among before.trigger_names name) || is_among before.ask_names name

-- rows by an attribute, none measured
abbrev pub is_index : Lane → Bool
is_index lane = is_attr lane.key && not (is_some lane.measure)

-- rows of an expression by their buckets
abbrev pub is_filter : Lane → Bool
is_filter lane = not (is_attr lane.key) && not (is_some lane.measure)

-- the same, with an attribute that is measured, whether the rows of a bucket are kept apart or not
abbrev pub is_aggregate : Lane → Bool
is_aggregate lane = not (is_attr lane.key) && is_some lane.measure

-- an aggregate that does not keep the rows of a bucket apart
abbrev pub is_unkeyed : Lane → Bool
is_unkeyed lane = is_aggregate lane && not (has_by lane.key)

-- rows by an attribute, with another that is measured
abbrev pub is_tally : Lane → Bool
is_tally lane = is_attr lane.key && is_some lane.measure

-- rows by either, with an attribute that is measured: an aggregate or a tally
abbrev pub is_measuring : Lane → Bool
is_measuring lane = is_some lane.measure

-- the lane is of the family
abbrev pub is_of : Family → Lane → Bool
is_of families.Index lane = is_index lane
is_of families.Filter lane = is_filter lane
is_of families.Aggregate lane = is_aggregate lane
is_of families.Unkeyed lane = is_unkeyed lane
is_of families.Tally lane = is_tally lane
is_of families.Measuring lane = is_measuring lane

-- the family of the lane whose buckets are asked about
abbrev pub family_of : Buckets → Family
family_of buckets.Between = families.Filter
family_of buckets.Measure = families.Unkeyed

-- the question about the lane's buckets between two
abbrev pub asked_of : Buckets → ℕ → ℕ → ℕ → Ask
asked_of buckets.Between lane first last = asks.Between lane first last
asked_of buckets.Measure lane first last = asks.Measure lane first last

-- the number of the lane of that name and the lane, if it passes
abbrev pub lane_named : (Lane → Bool) → DraftValue → List ℕ → Option (ℕ × Lane)
lane_named passes before name = do
  place ← place_in before.lane_names name
  lane ← slice_get before.lanes place
  if passes lane then Some (place, lane) else None

-- the trigger of that name
abbrev pub trigger_named : DraftValue → List ℕ → Option Trigger
trigger_named before name = do
  place ← place_in before.trigger_names name
  slice_get before.triggers place

-- the kind of a key's values
abbrev pub kind_of_key : List Attr → Key → Option Kind
kind_of_key attrs (keys.Attr attr) = option_map (λ attr. attr.kind) (slice_get attrs attr)
kind_of_key attrs keys.Bucket = None
kind_of_key attrs (keys.BucketBy attr) = None

-- the kind of an index's values
abbrev pub index_kind : DraftValue → List ℕ → Option Kind
index_kind before name = do
  index ← lane_named is_index before name
  kind_of_key (attrs_of before) index.1.key
