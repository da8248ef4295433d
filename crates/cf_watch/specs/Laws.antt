-- What is so of kept buckets, whatever records come and whenever marks are told.
use Rattle.std.specs.Prelude.{◌≡◌, ℕ, ◌<◌, ◌≤◌, ◌%◌, ◌^◌, true, false, ◌==◌, List, [], ◌∷◌, ◌++◌, length, take, map, filter, fold, sum, min, ◌-◌, All, if◌then◌else◌}
use Rattle.std.specs.List.{flat_map, list_any}
use Rattle.cf_row.specs.Row.{Fits, RowValue}
use Rattle.cf_fold.specs.Quads.{quad_of}
use Rattle.cf_fold.specs.declared.trigger.Trigger.{Trigger}
use Rattle.cf_shape.specs.Lanes.{ShapeValue, has_by, lane_at, selected_by, key_of, measure_of}
use Rattle.cf_plain.specs.Asks.{marks_over}
use Rattle.cf_plain.specs.Groups.{key_of_mark, keys_in}
use Rattle.cf_plain.specs.declared.answer.Fired.{Fired}
use Rattle.cf_watch.specs.Kept.{AreApart, BucketValue, is_kept, kept_after, most_kept, most_triggers, taking, with_record}
use Rattle.cf_watch.specs.Marks.{fresh_on, grows, marks_on, meets, telling}

-- what happens to the kept buckets of an aggregate: a record of a bucket comes, of which so much is measured; or the marks of the
-- trigger at a place are told
pub data Step : Type 0 where
  took : ℕ → ℕ → Step
  told : Trigger → ℕ → Step

-- the buckets after a step
abbrev pub after_step : List BucketValue → Step → List BucketValue
after_step kept (took b n) = taking kept b n
after_step kept (told trigger place) = telling trigger place kept

-- the buckets after steps, of which none was kept before
abbrev pub after_steps : List Step → List BucketValue
after_steps steps = fold after_step [] steps

-- what a step brings of a bucket
abbrev pub value_in : ℕ → Step → List ℕ
value_in b (took q n) = if q == b then n ∷ [] else []
value_in b (told trigger place) = []

-- what is measured of a bucket's records in some steps, in order
abbrev pub values_of : ℕ → List Step → List ℕ
values_of b steps = flat_map (value_in b) steps

-- At most so many buckets are kept, and each once.
abbrev pub KeepsFew : Type 0
KeepsFew = (steps : List Step) → (length (after_steps steps) ≤ most_kept) × AreApart (after_steps steps)

-- Before the rest of the steps the bucket was not kept, from the first of them on it always was, and its quad is that of its
-- records in them.
pub record IsKeptSince (past rest : List Step) (k : BucketValue) : Type 0 where
  pub was_not : is_kept (after_steps past) k.bucket ≡ false
  pub stayed : (i : ℕ) → 0 < i → i ≤ length rest → is_kept (after_steps (past ++ take i rest)) k.bucket ≡ true
  pub whole : k.quad ≡ quad_of (values_of k.bucket rest)

-- What is kept of a bucket is the quad of all its records since it was last forgotten, or since the beginning.
abbrev pub QuadsAreWhole : Type 0
QuadsAreWhole =
    (steps : List Step) → All (λ k. (past : List Step) × (rest : List Step) × (steps ≡ past ++ rest) × IsKeptSince past rest k) (after_steps steps)

-- a mark of that bucket is among them
abbrev pub HasMarkOf : List Fired → ℕ → Type 0
HasMarkOf marks b = list_any (λ mark. key_of_mark mark == b) marks ≡ true

-- Between two times at which a bucket is told for the trigger of one place there is a time at which it isn't kept.
abbrev pub TellsOnce : Type 0
TellsOnce =
    (xs ys : List Step) (trigger later : Trigger) (place b : ℕ) → place < most_triggers → HasMarkOf (fresh_on trigger place (after_steps xs)) b
    → HasMarkOf (fresh_on later place (after_steps (xs ++ told trigger place ∷ ys))) b
    → (us : List Step) × (vs : List Step) × (ys ≡ us ++ vs) × (is_kept (after_steps (xs ++ told trigger place ∷ us)) b ≡ false)

-- More records can't undo the marks of a trigger that grows.
abbrev pub GrowingStays : Type 0
GrowingStays =
    (trigger : Trigger) (k : BucketValue) (n : ℕ) → grows trigger.part trigger.op ≡ true → meets trigger k ≡ true → meets trigger (with_record n k) ≡ true

-- The totals are those of all records that the lane selects.
abbrev pub TotalsAreOfAll : Type 0
TotalsAreOfAll =
    (shape : ShapeValue) (lane : ℕ) (rows : List RowValue)
    → ((kept_after shape lane rows).count ≡ length (filter (selected_by shape lane) rows))
    × ((kept_after shape lane rows).sum ≡ sum (map (measure_of shape lane) (filter (selected_by shape lane) rows)) % 2 ^ 64)

-- Its buckets are those after the records that it selects, each in its bucket.
abbrev pub RowsAreSteps : Type 0
RowsAreSteps =
    (shape : ShapeValue) (lane : ℕ) (rows : List RowValue)
    → (kept_after shape lane rows).buckets
    ≡ after_steps (map (λ row. took (key_of shape lane row) (measure_of shape lane row)) (filter (selected_by shape lane) rows))

-- a mark as a watch shows it: a value above 2^64 - 1 counts as that
abbrev pub shown_mark : Fired → Fired
shown_mark mark = record { bucket = mark.bucket; key = mark.key; value = min mark.value (2 ^ 64 - 1) }

-- If the records of an aggregate that keeps no keys apart fit the schema and are in no more buckets than are kept, then its triggers'
-- marks in the final part are what they mean on all of them.
abbrev pub WholeStreams : Type 0
WholeStreams =
    (shape : ShapeValue) (trigger : Trigger) (rows : List RowValue) → has_by (lane_at shape trigger.agg).key ≡ false → All (Fits shape.schema) rows
    → length (keys_in shape trigger.agg rows) ≤ most_kept
    → marks_on trigger true (kept_after shape trigger.agg rows).buckets ≡ map shown_mark (marks_over shape trigger rows)
