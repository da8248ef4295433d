-- What is kept of a lane: whole buckets, or buckets whose keys are kept apart.
use Rattle.std.specs.Prelude.{ℕ, Bool, ◌&&◌, List, [], if◌then◌else◌}
use Rattle.cf_row.specs.Row.{RowValue}
use Rattle.cf_fold.specs.declared.trigger.Trigger.{Trigger}
use Rattle.cf_shape.specs.Lanes.{ShapeValue, key_of, selected_by}
use Rattle.cf_plain.specs.declared.answer.Fired.{Fired}
use Rattle.cf_watch.specs.Kept.{nothing_kept, with_row}
use Rattle.cf_watch.specs.Marks.{forgets_untold, fresh_on, marks_on, telling}
use Rattle.cf_watch.specs.Pairs.{apart_by, nothing_apart, with_row_apart}
use Rattle.cf_watch.specs.PairMarks.{apart_forgets, apart_fresh, apart_marks, apart_telling, crowds_on, crowds_told}
use Rattle.cf_watch.specs.declared.watched.Watched.{Watched}
use Rattle.cf_watch.specs.declared.watched.Watched.TheVariants.{Whole, Apart}

-- before the first record, where the lane keeps keys apart or not
abbrev pub nothing_watched : Bool → Watched
nothing_watched is_apart = if is_apart then Apart nothing_apart else Whole nothing_kept

-- how many records came that the filter selects
abbrev pub watched_count : Watched → ℕ
watched_count (Whole kept) = kept.count
watched_count (Apart kept) = kept.count

-- the sum of what is measured of them
abbrev pub watched_sum : Watched → ℕ
watched_sum (Whole kept) = kept.sum
watched_sum (Apart kept) = kept.sum

-- what is kept after one more record, which counts only if the lane's filter selects it
abbrev pub watched_row : ShapeValue → ℕ → Watched → RowValue → Watched
watched_row shape lane (Whole kept) row = Whole (with_row shape lane kept row)
watched_row shape lane (Apart kept) row = Apart (with_row_apart shape lane kept row)

-- the record makes a bucket forgotten that has a mark of some trigger of the lane, or is crowded, not yet told
abbrev pub watched_forgets : ShapeValue → ℕ → List Trigger → Watched → RowValue → Bool
watched_forgets shape lane triggers (Whole kept) row = selected_by shape lane row && forgets_untold lane triggers kept.buckets (key_of shape lane row)
watched_forgets shape lane triggers (Apart kept) row =
    selected_by shape lane row && apart_forgets lane triggers kept.buckets (key_of shape lane row) (apart_by shape lane row)

-- the marks of a trigger, while records come or in the final part
abbrev pub watched_marks : Trigger → Bool → Watched → List Fired
watched_marks trigger is_final (Whole kept) = marks_on trigger is_final kept.buckets
watched_marks trigger is_final (Apart kept) = apart_marks trigger is_final kept.buckets

-- the marks that a round tells, where the trigger stands at that place of the setup
abbrev pub watched_fresh : Trigger → ℕ → Watched → List Fired
watched_fresh trigger place (Whole kept) = fresh_on trigger place kept.buckets
watched_fresh trigger place (Apart kept) = apart_fresh trigger place kept.buckets

-- what is kept when they were told
abbrev pub watched_telling : Trigger → ℕ → Watched → Watched
watched_telling trigger place (Whole kept) = Whole (record kept { buckets = telling trigger place kept.buckets })
watched_telling trigger place (Apart kept) = Apart (record kept { buckets = apart_telling trigger place kept.buckets })

-- the numbers of the crowded buckets that a round tells, ascending
abbrev pub watched_crowds : Watched → List ℕ
watched_crowds (Whole kept) = []
watched_crowds (Apart kept) = crowds_on kept.buckets

-- what is kept when they were told
abbrev pub watched_crowds_told : Watched → Watched
watched_crowds_told (Whole kept) = Whole kept
watched_crowds_told (Apart kept) = Apart (record kept { buckets = crowds_told kept.buckets })
