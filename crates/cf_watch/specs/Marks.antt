-- The marks of triggers on whole buckets, and which of them were told.
use Rattle.std.specs.Prelude.{ℕ, ◌-◌, ◌^◌, Bool, true, false, not, ◌&&◌, ◌||◌, nat_lt, ◌==◌, List, [], ◌∷◌, ◌++◌, length, take, drop, map, filter, fold, min, slice_index_or, slice_set, None, if◌then◌else◌}
use Rattle.std.specs.List.{list_any, range_with_len}
use Rattle.cf_row.specs.declared.expr.Op.{Op}
use Rattle.cf_row.specs.declared.expr.Op.TheVariants.{Eq, Ne, Lt, Le, Gt, Ge, Within, Outside}
use Rattle.cf_fold.specs.Triggers.{fires_of, part_of}
use Rattle.cf_fold.specs.declared.trigger.Part.{Part}
use Rattle.cf_fold.specs.declared.trigger.Part.TheVariants.{Count, Sum, Least, Greatest}
use Rattle.cf_fold.specs.declared.trigger.Trigger.{Trigger}
use Rattle.cf_plain.specs.Groups.{key_of_mark}
use Rattle.cf_plain.specs.declared.answer.Fired.{Fired}
use Rattle.cf_watch.specs.Kept.{BucketValue, is_full, is_kept}

-- above a number
abbrev pub is_upward : Op → Bool
is_upward Eq = false
is_upward Ne = false
is_upward Lt = false
is_upward Le = false
is_upward Gt = true
is_upward Ge = true
is_upward Within = false
is_upward Outside = false

-- below a number
abbrev pub is_downward : Op → Bool
is_downward Eq = false
is_downward Ne = false
is_downward Lt = true
is_downward Le = true
is_downward Gt = false
is_downward Ge = false
is_downward Within = false
is_downward Outside = false

-- more records of a bucket can't undo that its part meets the operator
abbrev pub grows : Part → Op → Bool
grows Count op = is_upward op
grows Sum op = is_upward op
grows Least op = is_downward op
grows Greatest op = is_upward op

-- at how many of n kept buckets, from the first one on, a trigger looks: at all in the final part, or if more records can't undo its
-- marks; else at those behind which two or more stand
abbrev pub settled_count : Trigger → Bool → ℕ → ℕ
settled_count trigger is_final n = if is_final || grows trigger.part trigger.op then n else n - 2

-- the kept buckets at which it looks
abbrev pub settled : Trigger → Bool → List BucketValue → List BucketValue
settled trigger is_final kept = take (settled_count trigger is_final (length kept)) kept

-- it fires in the bucket
abbrev pub meets : Trigger → BucketValue → Bool
meets trigger kept = fires_of trigger kept.quad

-- The mark of a bucket in which it fires. A part above 2^64 - 1, which is a sum, counts as that; the trigger has seen the whole one.
abbrev pub mark_in : Trigger → BucketValue → Fired
mark_in trigger kept = record { bucket = kept.bucket; key = None; value = min (part_of trigger.part kept.quad) (2 ^ 64 - 1) }

-- a mark put into its place among marks that ascend by bucket and, where a lane keeps keys apart, by key; of one place the later stays
abbrev pub put_mark : List Fired → Fired → List Fired
put_mark [] mark = mark ∷ []
put_mark (m ∷ ms) mark =
    if nat_lt (key_of_mark mark) (key_of_mark m) then mark ∷ m ∷ ms
    else (if key_of_mark mark == key_of_mark m then mark ∷ ms else m ∷ put_mark ms mark)

-- marks, ascending
abbrev pub by_bucket : List Fired → List Fired
by_bucket marks = fold put_mark [] marks

-- the marks of some buckets, ascending
abbrev pub marks_of : Trigger → List BucketValue → List Fired
marks_of trigger kept = by_bucket (map (mark_in trigger) kept)

-- the marks of a trigger, while records come or in the final part
abbrev pub marks_on : Trigger → Bool → List BucketValue → List Fired
marks_on trigger is_final kept = marks_of trigger (filter (meets trigger) (settled trigger is_final kept))

-- the bucket was told for the trigger at that place of the setup
abbrev pub is_told : ℕ → BucketValue → Bool
is_told place kept = slice_index_or kept.told place false

-- the trigger at that place fires in it, and it was not told
abbrev pub is_untold : Trigger → ℕ → BucketValue → Bool
is_untold trigger place kept = meets trigger kept && not (is_told place kept)

-- the marks that a round tells: those of buckets not told yet
abbrev pub fresh_on : Trigger → ℕ → List BucketValue → List Fired
fresh_on trigger place kept = marks_of trigger (filter (is_untold trigger place) (settled trigger false kept))

-- if the trigger fires in it, it is told
abbrev pub with_told : Trigger → ℕ → BucketValue → BucketValue
with_told trigger place kept = if meets trigger kept then record kept { told = slice_set kept.told place true } else kept

-- the buckets when a round has told the trigger's marks
abbrev pub telling : Trigger → ℕ → List BucketValue → List BucketValue
telling trigger place kept =
    let n = settled_count trigger false (length kept) in map (with_told trigger place) (take n kept) ++ drop n kept

-- a record of that bucket makes the first one forgotten
abbrev pub forgets : List BucketValue → ℕ → Bool
forgets kept b = is_full kept && not (is_kept kept b)

-- stands where there is no trigger
abbrev pub no_trigger : Trigger
no_trigger = record { agg = 0; part = Count; op = Eq; number = 0 }

-- the trigger at that place is one of the lane, and has a mark on the first bucket, which was not told for it
abbrev pub is_first_untold : ℕ → List Trigger → List BucketValue → ℕ → Bool
is_first_untold lane triggers kept place =
    let trigger = slice_index_or triggers place no_trigger in
    (trigger.agg == lane) && list_any (is_untold trigger place) (take 1 (settled trigger false kept))

-- a record of that bucket makes a bucket forgotten that has a mark of some trigger of the lane, not yet told
abbrev pub forgets_untold : ℕ → List Trigger → List BucketValue → ℕ → Bool
forgets_untold lane triggers kept b =
    forgets kept b && list_any (is_first_untold lane triggers kept) (range_with_len 0 (length triggers))

-- the trigger at that place is one of the lane, fires in the bucket, and was not told
abbrev pub is_bucket_untold : ℕ → List Trigger → BucketValue → ℕ → Bool
is_bucket_untold lane triggers kept place =
    let trigger = slice_index_or triggers place no_trigger in (trigger.agg == lane) && is_untold trigger place kept

-- a bucket with a value, as a mark
abbrev pub fired_of : ℕ × ℕ → Fired
fired_of pair = record { bucket = pair.0; key = None; value = pair.1 }
