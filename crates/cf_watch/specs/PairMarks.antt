-- The marks of triggers on buckets whose keys are kept apart, which of them were told, and which buckets are crowded.
use Rattle.std.specs.Prelude.{ℕ, ◌-◌, ◌/◌, ◌%◌, ◌^◌, Bool, false, not, ◌&&◌, ◌||◌, nat_lt, ◌==◌, List, ◌++◌, length, take, drop, map, filter, min, slice_index_or, Option, Some, None}
use Rattle.std.specs.List.{flat_map, list_any, range_with_len}
use Rattle.cf_fold.specs.Triggers.{part_of}
use Rattle.cf_fold.specs.declared.trigger.Trigger.{Trigger}
use Rattle.cf_plain.specs.Groups.{ascending}
use Rattle.cf_plain.specs.declared.answer.Fired.{Fired}
use Rattle.cf_watch.specs.Kept.{BucketValue}
use Rattle.cf_watch.specs.Marks.{by_bucket, is_untold, meets, no_trigger, settled_count, with_told}
use Rattle.cf_watch.specs.Pairs.{ApartValue, forgotten_at, no_bucket}

-- the kept buckets at which a trigger looks, as it does at whole buckets
abbrev pub settled_apart : Trigger → Bool → List ApartValue → List ApartValue
settled_apart trigger is_final kept = take (settled_count trigger is_final (length kept)) kept

-- The mark of a bucket's key in which it fires. A part above 2^64 - 1 counts as that.
abbrev pub pair_mark : Trigger → ℕ → BucketValue → Fired
pair_mark trigger b pair = record { bucket = b; key = Some pair.bucket; value = min (part_of trigger.part pair.quad) (2 ^ 64 - 1) }

-- the marks of the keys of a bucket that pass
abbrev pub marks_at : Trigger → (BucketValue → Bool) → ApartValue → List Fired
marks_at trigger passes apart = map (pair_mark trigger apart.bucket) (filter passes apart.pairs)

-- the marks of the keys of some buckets that pass, ascending by bucket and then by key
abbrev pub marks_in : Trigger → (BucketValue → Bool) → List ApartValue → List Fired
marks_in trigger passes kept = by_bucket (flat_map (marks_at trigger passes) kept)

-- the marks of a trigger, while records come or in the final part
abbrev pub apart_marks : Trigger → Bool → List ApartValue → List Fired
apart_marks trigger is_final kept = marks_in trigger (meets trigger) (settled_apart trigger is_final kept)

-- the marks that a round tells: those of keys not told yet
abbrev pub apart_fresh : Trigger → ℕ → List ApartValue → List Fired
apart_fresh trigger place kept = marks_in trigger (is_untold trigger place) (settled_apart trigger false kept)

-- each key in which the trigger fires is told
abbrev pub with_pairs_told : Trigger → ℕ → ApartValue → ApartValue
with_pairs_told trigger place apart = record apart { pairs = map (with_told trigger place) apart.pairs }

-- the buckets when a round has told the trigger's marks
abbrev pub apart_telling : Trigger → ℕ → List ApartValue → List ApartValue
apart_telling trigger place kept =
    let n = settled_count trigger false (length kept) in map (with_pairs_told trigger place) (take n kept) ++ drop n kept

-- it is crowded, and that was not told
abbrev pub is_crowd_untold : ApartValue → Bool
is_crowd_untold apart = apart.crowded && not apart.crowd_told

-- the numbers of the crowded buckets that were not told, ascending
abbrev pub crowds_on : List ApartValue → List ℕ
crowds_on kept = ascending (map (λ apart. apart.bucket) (filter is_crowd_untold kept))

-- if it is crowded, that is told
abbrev pub with_crowd_told : ApartValue → ApartValue
with_crowd_told apart = record apart { crowd_told = apart.crowd_told || apart.crowded }

-- the buckets when a round has told which are crowded
abbrev pub crowds_told : List ApartValue → List ApartValue
crowds_told kept = map with_crowd_told kept

-- the bucket at a place
abbrev pub bucket_at : List ApartValue → ℕ → ApartValue
bucket_at kept at = slice_index_or kept at no_bucket

-- the trigger at a place of the setup is one of the lane, looks at the bucket, and fires in a key of it that was not told
abbrev pub is_key_untold : ℕ → List Trigger → List ApartValue → ℕ → ℕ → Bool
is_key_untold lane triggers kept at place =
    let trigger = slice_index_or triggers place no_trigger in
    (trigger.agg == lane) && nat_lt at (settled_count trigger false (length kept)) && list_any (is_untold trigger place) (bucket_at kept at).pairs

-- the bucket at a place is crowded or has a mark of some trigger of the lane, and that was not told
abbrev pub is_untold_at : ℕ → List Trigger → List ApartValue → Option ℕ → Bool
is_untold_at lane triggers kept None = false
is_untold_at lane triggers kept (Some at) =
    is_crowd_untold (bucket_at kept at) || list_any (is_key_untold lane triggers kept at) (range_with_len 0 (length triggers))

-- a record of that bucket and key makes a bucket forgotten that is crowded or has a mark of some trigger of the lane, not yet told
abbrev pub apart_forgets : ℕ → List Trigger → List ApartValue → ℕ → ℕ → Bool
apart_forgets lane triggers kept b k = is_untold_at lane triggers kept (forgotten_at kept b k)

-- a bucket and a key as one number, with a value, as a mark
abbrev pub pair_fired : ℕ × ℕ → Fired
pair_fired entry = record { bucket = entry.0 / 2 ^ 64; key = Some (entry.0 % 2 ^ 64); value = entry.1 }
