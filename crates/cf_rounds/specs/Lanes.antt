-- What is kept of each lane of a setup: of an aggregate its whole buckets, with their keys apart if it keeps them so; of another lane nothing.
use Rattle.std.specs.Prelude.{ℕ, ◌+◌, ◌≤◌, Bool, List, [], ◌∷◌, length, map, slice_index_or, slice_set, fold, All, false, if◌then◌else◌}
use Rattle.std.specs.List.{list_any, range_with_len}
use Rattle.cf_row.specs.Row.{RowValue}
use Rattle.cf_fold.specs.declared.trigger.Trigger.{Trigger}
use Rattle.cf_shape.specs.Lanes.{ShapeValue, has_by}
use Rattle.cf_plain.specs.Asks.{is_aggregate}
use Rattle.cf_plain.specs.declared.answer.Fired.{Fired}
use Rattle.cf_watch.specs.Marks.{no_trigger}
use Rattle.cf_watch.specs.Watched.{nothing_watched, watched_count, watched_crowds_told, watched_forgets, watched_fresh, watched_marks, watched_row, watched_telling}
use Rattle.cf_watch.specs.declared.watched.Watched.{Watched}

-- what is kept of the lane at a place
abbrev pub kept_at : List Watched → ℕ → Watched
kept_at kept lane = slice_index_or kept lane (nothing_watched false)

-- before the first record
abbrev pub none_kept : ShapeValue → List Watched
none_kept shape = map (λ lane. nothing_watched (has_by lane.key)) shape.lanes

-- what is kept of a lane after one more record: of an aggregate, with the record if its filter selects it
abbrev pub kept_with : ShapeValue → RowValue → ℕ → Watched → Watched
kept_with shape row lane kept = if is_aggregate shape lane then watched_row shape lane kept row else kept

-- the same of each lane, the first of which has that place
abbrev pub keeps_from : ShapeValue → RowValue → ℕ → List Watched → List Watched
keeps_from shape row lane [] = []
keeps_from shape row lane (kept ∷ rest) = kept_with shape row lane kept ∷ keeps_from shape row (lane + 1) rest

-- what is kept of all lanes after one more record
abbrev pub keeps : ShapeValue → List Watched → RowValue → List Watched
keeps shape kept row = keeps_from shape row 0 kept

-- with the record a bucket of the lane is forgotten that has a mark of some trigger, or is crowded, not yet told
abbrev pub forgets_at : ShapeValue → List Trigger → List Watched → RowValue → ℕ → Bool
forgets_at shape triggers kept row lane = watched_forgets shape lane triggers (kept_at kept lane) row

-- the same of some lane
abbrev pub forgets : ShapeValue → List Trigger → List Watched → RowValue → Bool
forgets shape triggers kept row = list_any (forgets_at shape triggers kept row) (range_with_len 0 (length kept))

-- the trigger at a place
abbrev pub trigger_at : List Trigger → ℕ → Trigger
trigger_at triggers place = slice_index_or triggers place no_trigger

-- the marks of a trigger, while records come or in the final part
abbrev pub marks_by : List Watched → Bool → Trigger → List Fired
marks_by kept is_final trigger = watched_marks trigger is_final (kept_at kept trigger.agg)

-- what is kept when the crowded buckets of all lanes were told
abbrev pub crowds_all : List Watched → List Watched
crowds_all kept = map watched_crowds_told kept

-- what is kept when the trigger at a place has told its marks
abbrev pub told_by : List Trigger → List Watched → ℕ → List Watched
told_by triggers kept place =
    let trigger = trigger_at triggers place in slice_set kept trigger.agg (watched_telling trigger place (kept_at kept trigger.agg))

-- what is kept when so many triggers, from the first on, have told theirs
abbrev pub told_first : List Trigger → List Watched → ℕ → List Watched
told_first triggers kept count = fold (told_by triggers) kept (range_with_len 0 count)

-- what is kept when a round has told the crowded buckets and all marks
abbrev pub told_all : List Trigger → List Watched → List Watched
told_all triggers kept = told_first triggers (crowds_all kept) (length triggers)

-- the marks that the trigger at a place tells, when those before it have told theirs
abbrev pub fresh_at : List Trigger → List Watched → ℕ → List Fired
fresh_at triggers kept place =
    let trigger = trigger_at triggers place in watched_fresh trigger place (kept_at (told_first triggers kept place) trigger.agg)

-- no more records are counted for a lane than came
abbrev pub AreCounted : ℕ → List Watched → Type 0
AreCounted count kept = All (λ k. watched_count k ≤ count) kept
