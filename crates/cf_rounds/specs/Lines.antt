-- The lines of a round, and those of a stream's end.
use Rattle.std.specs.Prelude.{ℕ, ◌+◌, ◌/◌, ◌^◌, Bool, true, false, ◌&&◌, nat_lt, nat_le, List, [], ◌++◌, length, map, slice_index_or, codes, decimal, if◌then◌else◌}
use Rattle.std.specs.List.{flat_map, range_with_len}
use Rattle.cf_row.specs.Row.{RowValue}
use Rattle.cf_plain.specs.Asks.{eval_rows, is_aggregate}
use Rattle.cf_plain.specs.declared.answer.Body.{Body}
use Rattle.cf_plain.specs.declared.answer.Body.TheVariants as bodies
use Rattle.cf_plain.specs.declared.answer.Fired.{Fired}
use Rattle.cf_plain.specs.declared.ask.Ask.{Ask}
use Rattle.cf_plain.specs.declared.ask.Ask.TheVariants as asks
use Rattle.cf_report.specs.Answered.{ask_at}
use Rattle.cf_report.specs.Bodies.{keys_text, line, word_of, shown}
use Rattle.cf_report.specs.Report.{alert_lines_at, ask_name, trigger_name}
use Rattle.cf_setup.specs.Setups.{SetupValue}
use Rattle.cf_shape.specs.Lanes.{ShapeValue}
use Rattle.cf_watch.specs.Watched.{watched_count, watched_crowds, watched_sum}
use Rattle.cf_watch.specs.declared.watched.Watched.{Watched}
use Rattle.cf_rounds.specs.Lanes.{crowds_all, fresh_at, kept_at, marks_by}

-- what a round sees: of the window the number of its first record, the number behind its last, and their rows; what is kept of each
-- lane; and the time of the last record, in nanoseconds
pub record RoundView : Type 0 where
  pub from : ℕ
  pub to : ℕ
  pub rows : List RowValue
  pub kept : List Watched
  pub last : ℕ

-- `crowded NAME BUCKET @T`
abbrev pub crowded_line : List ℕ → ℕ → ℕ → List ℕ
crowded_line name to bucket = line (codes "crowded " ++ name ++ codes " " ++ decimal bucket ++ codes " @" ++ decimal to)

-- the name of the lane at a place
abbrev pub lane_name : SetupValue → ℕ → List ℕ
lane_name setup lane = slice_index_or setup.lane_names lane []

-- of the lane at a place, the crowded buckets that a round tells
abbrev pub crowded_lines_at : SetupValue → ℕ → List Watched → ℕ → List ℕ
crowded_lines_at setup to kept lane = flat_map (crowded_line (lane_name setup lane) to) (watched_crowds (kept_at kept lane))

-- the same of each lane
abbrev pub crowded_lines : SetupValue → ℕ → List Watched → List ℕ
crowded_lines setup to kept = flat_map (crowded_lines_at setup to kept) (range_with_len 0 (length kept))

-- `alert NAME BUCKET VALUE @T`, and `alert NAME BUCKET/KEY VALUE @T` of an aggregate by key
abbrev pub fresh_line : List ℕ → ℕ → Fired → List ℕ
fresh_line name to mark =
    line (codes "alert " ++ name ++ codes " " ++ keys_text mark.bucket mark.key ++ codes " " ++ decimal mark.value ++ codes " @" ++ decimal to)

-- of the trigger at a place, the marks that it tells
abbrev pub fresh_lines_at : SetupValue → ℕ → List Watched → ℕ → List ℕ
fresh_lines_at setup to kept place = flat_map (fresh_line (trigger_name setup place) to) (fresh_at setup.triggers kept place)

-- the same of each trigger
abbrev pub fresh_lines : SetupValue → ℕ → List Watched → List ℕ
fresh_lines setup to kept = flat_map (fresh_lines_at setup to kept) (range_with_len 0 (length setup.triggers))

-- what a round tells: which buckets are crowded, and then the marks that are not told
abbrev pub news_lines : SetupValue → ℕ → List Watched → List ℕ
news_lines setup to kept = crowded_lines setup to kept ++ fresh_lines setup to (crowds_all kept)

-- What a question means in a round, or in the final part: of a trigger its marks on the whole buckets that are kept, of another what it
-- means on the window's records.
abbrev pub body_on : ShapeValue → RoundView → Bool → Ask → Body
body_on shape view is_final (asks.Fired trigger) = bodies.Marks (marks_by view.kept is_final trigger)
body_on shape view is_final (asks.List expr) = eval_rows shape (asks.List expr) view.rows
body_on shape view is_final (asks.Find lane low high) = eval_rows shape (asks.Find lane low high) view.rows
body_on shape view is_final (asks.Between lane low high) = eval_rows shape (asks.Between lane low high) view.rows
body_on shape view is_final (asks.Measure lane low high) = eval_rows shape (asks.Measure lane low high) view.rows
body_on shape view is_final (asks.Top lane part count) = eval_rows shape (asks.Top lane part count) view.rows
body_on shape view is_final (asks.Groups lane) = eval_rows shape (asks.Groups lane) view.rows
body_on shape view is_final (asks.Total attr expr) = eval_rows shape (asks.Total attr expr) view.rows

-- a body, where the window's records are told by their numbers in the stream
abbrev pub told_from : ℕ → Body → List ℕ
told_from from body = shown (map (λ place. from + place)) body

-- `live NAME @F..T WORD`
abbrev pub live_head : List ℕ → ℕ → ℕ → List ℕ → List ℕ
live_head name from to word = codes "live " ++ name ++ codes " @" ++ decimal from ++ codes ".." ++ decimal to ++ codes " " ++ word

-- `live NAME @F..T BODY`: what the question at a place means now
abbrev pub live_line : ShapeValue → SetupValue → RoundView → ℕ → List ℕ
live_line shape setup view place =
    line (live_head (ask_name setup place) view.from view.to (word_of (ask_at setup place)) ++ told_from view.from
    (body_on shape view false (ask_at setup place)))

-- `total NAME count C sum U`
abbrev pub total_line : List ℕ → Watched → List ℕ
total_line name kept = line (codes "total " ++ name ++ codes " count " ++ decimal (watched_count kept) ++ codes " sum " ++ decimal (watched_sum kept))

-- the line of the lane at a place, if it is an aggregate
abbrev pub total_line_at : ShapeValue → SetupValue → RoundView → ℕ → List ℕ
total_line_at shape setup view lane =
    if is_aggregate shape lane then total_line (lane_name setup lane) (kept_at view.kept lane) else []

-- a beat: `at T S`, with the whole seconds of the last record's time, and the totals of each aggregate
abbrev pub beat_text : ShapeValue → SetupValue → RoundView → List ℕ
beat_text shape setup view =
    line (codes "at " ++ decimal view.to ++ codes " " ++ decimal (view.last / 10 ^ 9))
    ++ flat_map (total_line_at shape setup view) (range_with_len 0 (length setup.lane_names))

-- the live questions are asked, or a beat comes: this is so at all, and so many records came since it was last
abbrev pub is_due : ℕ → ℕ → ℕ → Bool
is_due every asked to = nat_lt 0 every && nat_le (asked + every) to

-- a beat comes in a round: it is due, or records came since the last and the round is the last of all
abbrev pub is_beat : Bool → ℕ → ℕ → ℕ → Bool
is_beat is_last beat beaten to = nat_lt 0 beat && nat_le (beaten + (if is_last then 1 else beat)) to

-- `ask NAME BODY`: what the question at a place means in the final part
abbrev pub final_line : ShapeValue → SetupValue → RoundView → ℕ → List ℕ
final_line shape setup view place =
    line (codes "ask " ++ ask_name setup place ++ codes " " ++ word_of (ask_at setup place) ++ told_from view.from
    (body_on shape view true (ask_at setup place)))

-- what is written at the end, after the last round
abbrev pub end_text : ShapeValue → SetupValue → RoundView → List ℕ
end_text shape setup view =
    line (codes "records " ++ decimal view.to)
    ++ line (codes "window " ++ decimal view.from)
    ++ flat_map (final_line shape setup view) (range_with_len 0 (length setup.asks))
    ++ flat_map (alert_lines_at setup (map (marks_by view.kept true) setup.triggers)) (range_with_len 0 (length setup.triggers))
