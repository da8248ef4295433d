-- What is kept of an aggregate by key: buckets in the order of their last records, and in each the records of each key apart.
use Rattle.std.specs.Prelude.{◌≡◌, ℕ, ◌+◌, ◌%◌, ◌^◌, ◌<◌, ◌≤◌, Bool, true, false, not, ◌&&◌, nat_le, ◌==◌, List, [], ◌∷◌, ◌++◌, length, map, filter, fold, All, slice_index_or, Option, Some, None, if◌then◌else◌}
use Rattle.std.specs.BTreeMap.{BTreeMap, get}
use Rattle.std.specs.List.{list_any, position, remove, sum_by}
use Rattle.std.specs.Option.{MatchOption, unwrap_or}
use Rattle.std.specs.Ordering.{nat_cmp}
use Rattle.cf_row.specs.Row.{RowValue}
use Rattle.cf_shape.specs.Lanes.{ShapeValue, by_of, key_of, measure_of, selected_by}
use Rattle.cf_watch.specs.Kept.{AreApart, AreDistinct, BucketValue, begun, is_kept, is_of, with_record}

-- how many buckets are kept of an aggregate by key
abbrev pub most_apart : ℕ
most_apart = 8

-- how many pairs of a bucket and a key are kept in them
abbrev pub most_pairs : ℕ
most_pairs = 65536

-- A bucket whose keys are kept apart: its number; of each key, in the order in which they came, what is kept of a bucket otherwise, the
-- key standing for the bucket's number; whether a record of another key came when there were as many as may be; and whether that was told.
pub record ApartValue : Type 0 where
  pub bucket : ℕ
  pub pairs : List BucketValue
  pub crowded : Bool
  pub crowd_told : Bool

-- what is kept of an aggregate by key: its buckets, first the one whose last record came first; how many records came that its filter
-- selects; and the sum of what it measures of them, modulo 2^64
pub record KeptApartValue : Type 0 where
  pub buckets : List ApartValue
  pub count : ℕ
  pub sum : ℕ

-- before the first record
abbrev pub nothing_apart : KeptApartValue
nothing_apart = record { buckets = []; count = 0; sum = 0 }

-- stands where there is no bucket
abbrev pub no_bucket : ApartValue
no_bucket = record { bucket = 0; pairs = []; crowded = false; crowd_told = false }

-- it is the bucket of that number
abbrev pub is_at : ℕ → ApartValue → Bool
is_at b apart = apart.bucket == b

-- it is another one
abbrev pub is_elsewhere : ℕ → ApartValue → Bool
is_elsewhere b apart = not (is_at b apart)

-- the bucket is kept
abbrev pub has_bucket : List ApartValue → ℕ → Bool
has_bucket kept b = list_any (is_at b) kept

-- it is the bucket of that number, and the key is kept in it
abbrev pub is_pair : ℕ → ℕ → ApartValue → Bool
is_pair b k apart = is_at b apart && is_kept apart.pairs k

-- the pair of a bucket and a key is kept
abbrev pub has_pair : List ApartValue → ℕ → ℕ → Bool
has_pair kept b k = list_any (is_pair b k) kept

-- how many pairs are kept
abbrev pub pair_count : List ApartValue → ℕ
pair_count kept = sum_by (λ apart. length apart.pairs) kept

-- The place of the bucket that is forgotten when a record of bucket b and key k comes, if one is. For a pair that is not kept it is the
-- first of another number if there are as many pairs as may be, and else the first of all if as many buckets are kept as may be and b is
-- none of them.
abbrev pub forgotten_at : List ApartValue → ℕ → ℕ → Option ℕ
forgotten_at kept b k =
    if has_pair kept b k then None
    else
    (if nat_le most_pairs (pair_count kept) then position (is_elsewhere b) kept
    else (if nat_le most_apart (length kept) && not (has_bucket kept b) then Some 0 else None))

-- without the bucket at that place
abbrev pub without : List ApartValue → Option ℕ → List ApartValue
without kept None = kept
without kept (Some place) = remove kept place

-- the key with one record more, if it is that one
abbrev pub if_of : ℕ → ℕ → BucketValue → BucketValue
if_of k n pair = if is_of k pair then with_record n pair else pair

-- The bucket after one more record of key k, of which n is measured. A key that is kept takes it, and another one begins behind the
-- others if there is room. If there is none, the bucket is crowded, and the record counts for nothing.
abbrev pub with_key : ℕ → ℕ → ApartValue → ApartValue
with_key k n apart =
    if is_kept apart.pairs k then record apart { pairs = map (if_of k n) apart.pairs }
    else
    (if nat_le most_pairs (length apart.pairs) then record apart { crowded = true }
    else record apart { pairs = apart.pairs ++ begun k n ∷ [] })

-- a bucket of one record alone
abbrev pub begun_apart : ℕ → ℕ → ℕ → ApartValue
begun_apart b k n = record { bucket = b; pairs = begun k n ∷ []; crowded = false; crowd_told = false }

-- a record comes for which there is room: a kept bucket takes it and moves to the end, and another one begins there
abbrev pub placing : List ApartValue → ℕ → ℕ → ℕ → List ApartValue
placing kept b k n =
    if has_bucket kept b then filter (is_elsewhere b) kept ++ map (with_key k n) (filter (is_at b) kept)
    else kept ++ begun_apart b k n ∷ []

-- the buckets after one more record of bucket b and key k, of which n is measured
abbrev pub taking_apart : List ApartValue → ℕ → ℕ → ℕ → List ApartValue
taking_apart kept b k n = placing (without kept (forgotten_at kept b k)) b k n

-- what is kept after one more record that the filter selects
abbrev pub with_one_apart : KeptApartValue → ℕ → ℕ → ℕ → KeptApartValue
with_one_apart kept b k n = record { buckets = taking_apart kept.buckets b k n; count = kept.count + 1; sum = (kept.sum + n) % 2 ^ 64 }

-- the key of a record in the lane of that number
abbrev pub apart_by : ShapeValue → ℕ → RowValue → ℕ
apart_by shape lane row = unwrap_or (by_of shape lane row) 0

-- what is kept after one more record, which counts only if the filter of the aggregate's lane selects it
abbrev pub with_row_apart : ShapeValue → ℕ → KeptApartValue → RowValue → KeptApartValue
with_row_apart shape lane kept row =
    if selected_by shape lane row then with_one_apart kept (key_of shape lane row) (apart_by shape lane row) (measure_of shape lane row) else kept

-- what is kept after these records
abbrev pub apart_after : ShapeValue → ℕ → List RowValue → KeptApartValue
apart_after shape lane rows = fold (with_row_apart shape lane) nothing_apart rows

-- each bucket is kept once
abbrev pub AreSeparate : List ApartValue → Type 0
AreSeparate kept = AreDistinct (λ a. a.bucket) kept

-- each key is kept once, and has its place
pub record IsIndexed (places : BTreeMap ℕ ℕ) (pairs : List BucketValue) : Type 0 where
  pub found : (q : ℕ)
      → MatchOption (get nat_cmp places q) (is_kept pairs q ≡ false) (λ place. (place < length pairs) × ((slice_index_or pairs place (begun 0 0)).bucket ≡ q))
  pub apart : AreApart pairs

-- in the bucket each key is kept once, there is one, and none has more records than came
pub record IsApart (count : ℕ) (bucket : ApartValue) : Type 0 where
  pub some : 0 < length bucket.pairs
  pub different : AreApart bucket.pairs
  pub counted : All (λ pair. pair.quad.count ≤ count) bucket.pairs

-- what is true of the kept buckets of an aggregate by key of which so many records came
pub record IsKeptApart (kept : List ApartValue) (count : ℕ) : Type 0 where
  pub few : length kept ≤ most_apart
  pub bounded : pair_count kept ≤ most_pairs
  pub separate : AreSeparate kept
  pub apart : All (IsApart count) kept
