-- What a question means on a list of rows.
use Rattle.std.specs.Prelude.{◌≡◌, ℕ, ◌≤◌, ◌^◌, Bool, true, false, ◌&&◌, not, nat_lt, nat_le, List, [], length, map, filter, All, slice_get, slice_index_or, is_some}
use Rattle.std.specs.List.{range_with_len}
use Rattle.cf_row.specs.declared.row.Entry.{Entry}
use Rattle.cf_row.specs.Row.{RowValue, Fits}
use Rattle.cf_row.specs.Expr.{holds_of, is_of_schema, is_range}
use Rattle.cf_fold.specs.Quads.{QuadValue, quad_of}
use Rattle.cf_fold.specs.Triggers.{fires_of, part_of}
use Rattle.cf_fold.specs.declared.trigger.Trigger.{Trigger}
use Rattle.cf_shape.specs.Lanes.{ShapeValue, lane_at, selected_by, key_of, measure_of, option_passes, is_narrow}
use Rattle.cf_shape.specs.declared.lane.Key.{Key}
use Rattle.cf_shape.specs.declared.lane.Key.TheVariants as keys
use Rattle.cf_plain.specs.Groups.{groups, fired_at}
use Rattle.cf_plain.specs.Tops.{top_over}
use Rattle.cf_plain.specs.Totals.{total}
use Rattle.cf_plain.specs.declared.ask.Ask.{Ask}
use Rattle.cf_plain.specs.declared.ask.Ask.TheVariants as asks
use Rattle.cf_plain.specs.declared.answer.Fired.{Fired}
use Rattle.cf_plain.specs.declared.answer.Body.{Body}
use Rattle.cf_plain.specs.declared.answer.Body.TheVariants as bodies

-- the rows of some entries
abbrev pub rows_in : List Entry → List RowValue
rows_in entries = map (λ entry. entry.row) entries

-- stands in for a row where there is none
abbrev pub no_row : RowValue
no_row = record { num = 0; values = [] }

-- the row at a place
abbrev pub row_at : List RowValue → ℕ → RowValue
row_at rows place = slice_index_or rows place no_row

-- the places of the rows that pass, ascending
abbrev pub places : (RowValue → Bool) → List RowValue → List ℕ
places passes rows = filter (λ place. passes (row_at rows place)) (range_with_len 0 (length rows))

-- ranges take in both ends
abbrev pub is_between : ℕ → ℕ → ℕ → Bool
is_between low high n = nat_le low n && nat_le n high

-- the lane selects the row, and files it by a key in the range
abbrev pub is_keyed_between : ShapeValue → ℕ → ℕ → ℕ → RowValue → Bool
is_keyed_between shape lane low high row = selected_by shape lane row && is_between low high (key_of shape lane row)

-- whether a row counts for a question
abbrev pub counts_for : ShapeValue → Ask → RowValue → Bool
counts_for shape (asks.List expr) row = holds_of expr row
counts_for shape (asks.Find lane low high) row = is_keyed_between shape lane low high row
counts_for shape (asks.Between lane low high) row = is_keyed_between shape lane low high row
counts_for shape (asks.Measure lane low high) row = is_keyed_between shape lane low high row
counts_for shape (asks.Fired trigger) row = selected_by shape trigger.agg row
counts_for shape (asks.Top lane part n) row = selected_by shape lane row
counts_for shape (asks.Groups lane) row = selected_by shape lane row
counts_for shape (asks.Total attr expr) row = holds_of expr row

-- the quad of what the lane measures of the rows that pass
abbrev pub total_over : ShapeValue → ℕ → (RowValue → Bool) → List RowValue → QuadValue
total_over shape lane passes rows = quad_of (map (measure_of shape lane) (filter passes rows))

-- the key of a group, with the part of its quad that a trigger looks at
abbrev pub mark_of : Trigger → ℕ × QuadValue → Fired
mark_of trigger group = fired_at group.0 (part_of trigger.part group.1)

-- the groups in which a trigger fires
abbrev pub marks_in : Trigger → List (ℕ × QuadValue) → List Fired
marks_in trigger groups = map (mark_of trigger) (filter (λ group. fires_of trigger group.1) groups)

-- the marks of a trigger on some rows
abbrev pub marks_over : ShapeValue → Trigger → List RowValue → List Fired
marks_over shape trigger rows = marks_in trigger (groups shape trigger.agg rows)

-- what a question's answer on a list of rows is
abbrev pub eval_rows : ShapeValue → Ask → List RowValue → Body
eval_rows shape (asks.List expr) rows = bodies.Places (places (counts_for shape (asks.List expr)) rows)
eval_rows shape (asks.Find lane low high) rows = bodies.Places (places (counts_for shape (asks.Find lane low high)) rows)
eval_rows shape (asks.Between lane low high) rows = bodies.Places (places (counts_for shape (asks.Between lane low high)) rows)
eval_rows shape (asks.Measure lane low high) rows = bodies.Total (total_over shape lane (counts_for shape (asks.Measure lane low high)) rows)
eval_rows shape (asks.Fired trigger) rows = bodies.Marks (marks_over shape trigger rows)
eval_rows shape (asks.Top lane part n) rows = bodies.Tops (top_over shape lane part n rows)
eval_rows shape (asks.Groups lane) rows = bodies.Groups (groups shape lane rows)
eval_rows shape (asks.Total attr expr) rows = bodies.Total (total attr expr rows)

-- the same on the entries of a log
abbrev pub eval : ShapeValue → Ask → List Entry → Body
eval shape ask entries = eval_rows shape ask (rows_in entries)

-- the key is an attribute's value
abbrev pub is_attr : Key → Bool
is_attr (keys.Attr attr) = true
is_attr keys.Bucket = false
is_attr (keys.BucketBy attr) = false

-- there is such a lane
abbrev pub exists : ShapeValue → ℕ → Bool
exists shape lane = nat_lt lane (length shape.lanes)

-- a lane whose key is an attribute
abbrev pub is_indexed : ShapeValue → ℕ → Bool
is_indexed shape lane = exists shape lane && is_attr (lane_at shape lane).key

-- a lane whose key is the bucket
abbrev pub is_bucketed : ShapeValue → ℕ → Bool
is_bucketed shape lane = exists shape lane && not (is_attr (lane_at shape lane).key)

-- one that also measures something
abbrev pub is_aggregate : ShapeValue → ℕ → Bool
is_aggregate shape lane = is_bucketed shape lane && is_some (lane_at shape lane).measure

-- a lane whose key is an attribute and that also measures something
abbrev pub is_tally : ShapeValue → ℕ → Bool
is_tally shape lane = is_indexed shape lane && is_some (lane_at shape lane).measure

-- a lane that measures something, whatever its key is: one of the two
abbrev pub is_measuring : ShapeValue → ℕ → Bool
is_measuring shape lane = exists shape lane && is_some (lane_at shape lane).measure

-- the trigger's lane is an aggregate, and its operator compares with one number
abbrev pub suits_trigger : ShapeValue → Trigger → Bool
suits_trigger shape trigger = is_aggregate shape trigger.agg && not (is_range trigger.op)

-- the same as a fact
abbrev pub SuitsTrigger : ShapeValue → Trigger → Type 0
SuitsTrigger shape trigger = suits_trigger shape trigger ≡ true

-- the question can be asked of a log of that shape
abbrev pub suits_of : ShapeValue → Ask → Bool
suits_of shape (asks.List expr) = is_of_schema shape.schema expr
suits_of shape (asks.Find lane low high) = is_indexed shape lane
suits_of shape (asks.Between lane low high) = is_bucketed shape lane
suits_of shape (asks.Measure lane low high) = is_aggregate shape lane
suits_of shape (asks.Fired trigger) = suits_trigger shape trigger
suits_of shape (asks.Top lane part n) = (is_tally shape lane && nat_le 1 n) && nat_le n 1000
suits_of shape (asks.Groups lane) = is_measuring shape lane
suits_of shape (asks.Total attr expr) = is_of_schema shape.schema expr && option_passes is_narrow (slice_get shape.schema attr)

-- the same as a fact
abbrev pub Suits : ShapeValue → Ask → Type 0
Suits shape ask = suits_of shape ask ≡ true

-- each row fits the schema
abbrev pub FitAll : ShapeValue → List Entry → Type 0
FitAll shape entries = All (λ entry. Fits shape.schema entry.row) entries

-- a list of one thread as contracts see it
pub record PlainValue : Type 0 where
  pub shape : ShapeValue
  pub entries : List Entry

-- its rows fit, and there are at most 2^20
pub record IsPlainList (held : PlainValue) : Type 0 where
  pub fit : FitAll held.shape held.entries
  pub few : length held.entries ≤ 2 ^ 20
