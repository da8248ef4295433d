-- What is kept of an aggregate: whole buckets, in the order of their last records.
use Rattle.std.specs.Prelude.{◌≡◌, ℕ, ◌+◌, ◌%◌, ◌^◌, ◌≤◌, Bool, false, not, nat_le, ◌==◌, List, [], ◌∷◌, ◌++◌, length, drop, replicate, map, filter, fold, All, if◌then◌else◌}
use Rattle.std.specs.List.{list_any}
use Rattle.cf_row.specs.Row.{RowValue}
use Rattle.cf_fold.specs.Quads.{QuadValue, quad_of, plus}
use Rattle.cf_shape.specs.Lanes.{ShapeValue, selected_by, key_of, measure_of}

-- how many buckets are kept of an aggregate
abbrev pub most_kept : ℕ
most_kept = 4096

-- how many triggers a setup may have
abbrev pub most_triggers : ℕ
most_triggers = 16

-- a kept bucket: its number, the quad of its records since it is kept, and for each trigger, by its place in the setup, whether
-- the bucket was told for it since then
pub record BucketValue : Type 0 where
  pub bucket : ℕ
  pub quad : QuadValue
  pub told : List Bool

-- what is kept of an aggregate: its buckets, first the one whose last record came first; how many records came that its filter
-- selects; and the sum of what it measures of them, modulo 2^64
pub record KeptValue : Type 0 where
  pub buckets : List BucketValue
  pub count : ℕ
  pub sum : ℕ

-- before the first record
abbrev pub nothing_kept : KeptValue
nothing_kept = record { buckets = []; count = 0; sum = 0 }

-- it is the bucket of that number
abbrev pub is_of : ℕ → BucketValue → Bool
is_of b kept = kept.bucket == b

-- it is another one
abbrev pub is_other : ℕ → BucketValue → Bool
is_other b kept = not (is_of b kept)

-- the bucket is kept
abbrev pub is_kept : List BucketValue → ℕ → Bool
is_kept kept b = list_any (is_of b) kept

-- as many are kept as may be
abbrev pub is_full : List BucketValue → Bool
is_full kept = nat_le most_kept (length kept)

-- a bucket of one record alone, of which n is measured; it was told for no trigger
abbrev pub begun : ℕ → ℕ → BucketValue
begun b n = record { bucket = b; quad = quad_of (n ∷ []); told = replicate most_triggers false }

-- the bucket with one record more, of which n is measured
abbrev pub with_record : ℕ → BucketValue → BucketValue
with_record n kept = record kept { quad = plus kept.quad n }

-- the first one is forgotten if as many are kept as may be
abbrev pub with_room : List BucketValue → List BucketValue
with_room kept = if is_full kept then drop 1 kept else kept

-- The buckets after one more record of bucket b, of which n is measured. A kept bucket takes it and moves to the end; another one
-- begins there, for which the first is forgotten if need be.
abbrev pub taking : List BucketValue → ℕ → ℕ → List BucketValue
taking kept b n =
    if is_kept kept b then filter (is_other b) kept ++ map (with_record n) (filter (is_of b) kept)
    else with_room kept ++ begun b n ∷ []

-- what is kept after one more record that the filter selects
abbrev pub with_one : KeptValue → ℕ → ℕ → KeptValue
with_one kept b n = record { buckets = taking kept.buckets b n; count = kept.count + 1; sum = (kept.sum + n) % 2 ^ 64 }

-- what is kept after one more record, which counts only if the filter of the aggregate's lane selects it
abbrev pub with_row : ShapeValue → ℕ → KeptValue → RowValue → KeptValue
with_row shape lane kept row = if selected_by shape lane row then with_one kept (key_of shape lane row) (measure_of shape lane row) else kept

-- what is kept after these records
abbrev pub kept_after : ShapeValue → ℕ → List RowValue → KeptValue
kept_after shape lane rows = fold (with_row shape lane) nothing_kept rows

-- each number is there once
abbrev pub AreDistinct : {X : Type 0} → (X → ℕ) → List X → Type 0
AreDistinct number [] = Unit {0}
AreDistinct number (x ∷ xs) = (list_any (λ y. number y == number x) xs ≡ false) × AreDistinct number xs

-- each bucket is kept once
abbrev pub AreApart : List BucketValue → Type 0
AreApart kept = AreDistinct (λ k. k.bucket) kept

-- what is true of the kept buckets of an aggregate of which so many records came
pub record IsKept (kept : List BucketValue) (count : ℕ) : Type 0 where
  pub few : length kept ≤ most_kept
  pub apart : AreApart kept
  pub counted : All (λ k. k.quad.count ≤ count) kept
