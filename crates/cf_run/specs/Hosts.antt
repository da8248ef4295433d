-- What is written of several hosts.
use Rattle.std.specs.Prelude.{◌≡◌, ℕ, ◌<◌, ◌≤◌, List, [], ◌++◌, length, map, slice_index_or, Option, None, Vec}
use Rattle.std.specs.Global.{Global}
use Rattle.std.specs.List.{flat_map, range_with_len, sum}
use Rattle.cf_row.specs.Row.{RowValue}
use Rattle.cf_follow.specs.Followed.{truncated_line}
use Rattle.cf_plain.specs.declared.ask.Ask.{Ask}
use Rattle.cf_plain.specs.declared.answer.Answer.{Answer}
use Rattle.cf_report.specs.Snapshot.{cut_line, host_text_at, rows_of_cut}
use Rattle.cf_setup.specs.Setups.{SetupValue}
use Rattle.cf_shape.specs.Lanes.{ShapeValue}
use Rattle.cf_snapshot.specs.Courses.{CourseValue, answers_on}
use Rattle.cf_snapshot.specs.declared.take.Snapshot.{Snapshot}
use Rattle.cf_intake.specs.Rows.{CaptureValue}

-- the rows of each host, and within which record its capture ends, if it does
abbrev pub rows_told : List CaptureValue → List (List RowValue)
rows_told hosts = map (λ host. host.rows) hosts

abbrev pub ends_told : List CaptureValue → List (Option ℕ)
ends_told hosts = map (λ host. host.cut) hosts

-- the part of a host at a cut, and the line of its capture where this is truncated
abbrev pub host_lines_at : ShapeValue → SetupValue → List ℕ → List (List RowValue) → List (Option ℕ) → ℕ → List ℕ
host_lines_at shape setup cut hosts ends host = host_text_at shape setup cut hosts host ++ truncated_line (slice_index_or ends host None)

-- The text of a cut of hosts that have these rows, and whose captures end so: the sum of the cut, and then each host, the first being host 0.
abbrev pub hosts_text : ShapeValue → SetupValue → List ℕ → List (List RowValue) → List (Option ℕ) → List ℕ
hosts_text shape setup cut hosts ends = cut_line (sum cut) ++ flat_map (host_lines_at shape setup cut hosts ends) (range_with_len 0 (length hosts))

-- all rows of each host
abbrev pub rows_covered : List CourseValue → List (List RowValue)
rows_covered courses = map (λ course. course.task.rows) courses

-- A snapshot of hosts that have these rows: the cut has no more rows of a host than it has, and each host has answered the questions on
-- its rows that are in the cut.
pub record AreTold (shape : ShapeValue) (asks : List Ask) (hosts : List (List RowValue)) (taken : Snapshot) : Type 0 where
  pub cuts : length taken.cut.items ≡ length hosts
  pub within : (host : ℕ) → slice_index_or taken.cut.items host 0 ≤ length (slice_index_or hosts host [])
  pub count : length taken.answers.items ≡ length hosts
  pub each : (host : ℕ) (given : Vec Answer Global) → host < length hosts
      → (slice_index_or taken.answers.items host given).items ≡ answers_on shape (rows_of_cut taken.cut.items hosts host) asks
