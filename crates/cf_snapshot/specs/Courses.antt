-- Hosts with the rows that they cover, and what a snapshot over them answers.
use Rattle.std.specs.Prelude.{◌≡◌, ℕ, ◌+◌, ◌-◌, ◌<◌, ◌≤◌, Bool, false, true, List, All, fold, length, map, take, slice_index_or, Vec}
use Rattle.std.specs.List.{flat_map, range_with_len}
use Rattle.std.specs.Global.{Global}
use Rattle.cf_row.specs.Row.{RowValue, Fits}
use Rattle.cf_plain.specs.Asks.{Suits, rows_in, eval_rows}
use Rattle.cf_plain.specs.declared.ask.Ask.{Ask}
use Rattle.cf_plain.specs.declared.answer.Answer.{Answer}
use Rattle.cf_shape.specs.Lanes.{ShapeValue}
use Rattle.cf_shape.specs.Nodes.{distinct}
use Rattle.cf_alone.specs.Solos.{AreNeeded}
use Rattle.cf_snapshot.specs.Hosts.{HostValue, HasEnough}
use Rattle.cf_snapshot.specs.Plans.{turns_round, turn_of_host, turns_of_host, freeze_host, in_cut}
use Rattle.cf_snapshot.specs.Snapshots.{SnapValue, IsSnapshot, is_host, tail_of, is_frozen, after, state_after}
use Rattle.cf_snapshot.specs.declared.event.SnapEvent.TheVariants.{Begin, Freeze}
use Rattle.cf_snapshot.specs.declared.take.Pace.{Pace}

-- the shape of a host's log, and all rows that it is to cover
pub record TaskValue : Type 0 where
  pub shape : ShapeValue
  pub rows : List RowValue

-- what a host is to do, how many of its rows it has covered, and whether it is frozen
pub record CourseValue : Type 0 where
  pub task : TaskValue
  pub covered : ℕ
  pub is_frozen : Bool

-- a host that is to cover rows, as contracts see it
abbrev pub course_of : List RowValue → HostValue → CourseValue
course_of rows host = record { task = record { shape = host.shape; rows = rows }; covered = length host.entries; is_frozen = host.is_frozen }

-- one that has covered none of them
abbrev pub idle_course : ShapeValue → List RowValue → CourseValue
idle_course shape rows = record { task = record { shape = shape; rows = rows }; covered = 0; is_frozen = false }

-- The rows fit the log of the host, which has covered the first of them. Its used nodes are needed by the rows.
pub record IsCourse (rows : List RowValue) (host : HostValue) : Type 0 where
  pub fit : All (Fits (host.shape).schema) rows
  pub few : length rows ≤ (host.shape).capacity
  pub within : length host.entries ≤ length rows
  pub begins : rows_in host.entries ≡ take (length host.entries) rows
  pub needed : AreNeeded host.shape rows host.used
  pub enough : HasEnough host

-- the rows need more different nodes than their host has
abbrev pub NeedsMore : TaskValue → Type 0
NeedsMore task = (task.shape).nodes < distinct task.shape task.rows

-- host h of the snapshot has covered as many records, and is frozen where that one is
pub record StandsIn (s : SnapValue) (h : ℕ) (course : CourseValue) : Type 0 where
  pub sized : IsSnapshot s
  pub exists : is_host s h ≡ true
  pub tail : tail_of s h ≡ course.covered
  pub frozen : is_frozen s h ≡ course.is_frozen

-- the hosts are those of the snapshot
pub record AreIn (s : SnapValue) (courses : List CourseValue) : Type 0 where
  pub sized : IsSnapshot s
  pub tails : s.tails ≡ map (λ course. course.covered) courses
  pub frozen : s.frozen ≡ map (λ course. course.is_frozen) courses

-- what each host is to do
abbrev pub tasks_of : List CourseValue → List TaskValue
tasks_of courses = map (λ course. course.task) courses

-- how many rows each is to cover
abbrev pub counts_of : List TaskValue → List ℕ
counts_of tasks = map (λ task. length task.rows) tasks

-- the answers to the questions on the first rows of a host
abbrev pub answers_on : ShapeValue → List RowValue → List Ask → List Answer
answers_on shape rows asks = map (λ ask. record { tail = length rows; body = eval_rows shape ask rows }) asks

-- every question suits each log
abbrev pub AreSuited : List Ask → List TaskValue → Type 0
AreSuited asks tasks = All (λ task. All (Suits task.shape) asks) tasks

-- each of the first n hosts has answered the questions on its rows that are in the cut
pub record AreAnswered (pace : Pace) (asks : List Ask) (tasks : List TaskValue) (n : ℕ) (answers : List (Vec Answer Global)) : Type 0 where
  pub count : length answers ≡ n
  pub each : (h : ℕ) (task : TaskValue) (given : Vec Answer Global) → h < n → h < length tasks
      → (slice_index_or answers h given).items
      ≡ answers_on (slice_index_or tasks h task).shape
      (take (in_cut pace.turn (counts_of tasks) pace.turns h) (slice_index_or tasks h task).rows) asks

-- the hosts have covered all their rows, with no more nodes than they have, and are free
pub record AreDone (tasks : List TaskValue) (courses : List CourseValue) : Type 0 where
  pub tasks_are : tasks_of courses ≡ tasks
  pub covered : map (λ course. course.covered) courses ≡ counts_of tasks
  pub free : All (λ course. course.is_frozen ≡ false) courses
  pub enough : All (λ task. distinct task.shape task.rows ≤ (task.shape).nodes) tasks

-- no host has covered a row or is frozen
abbrev pub AreIdle : List CourseValue → Type 0
AreIdle courses = All (λ course. (course.covered ≡ 0) × (course.is_frozen ≡ false)) courses

-- there are 1 to 16 hosts, with at most 65,536 rows each
pub record AreFew (counts : List ℕ) : Type 0 where
  pub some : 0 < length counts
  pub hosts : length counts ≤ 16
  pub rows : All (λ count. count ≤ 65536) counts

-- the state after the turns before the freezing
abbrev pub going_state : Pace → List ℕ → SnapValue
going_state pace counts = state_after (length counts) (turns_round pace.turn counts pace.turns)

-- that after which the first n hosts are frozen
abbrev pub freezing_state : Pace → List ℕ → ℕ → SnapValue
freezing_state pace counts n =
    fold after (after (going_state pace counts) Begin) (flat_map (freeze_host pace.turn counts pace.turns) (range_with_len 0 n))

-- that after which host n is frozen too, and those above it up to m had their turn
abbrev pub passing_state : Pace → List ℕ → ℕ → ℕ → SnapValue
passing_state pace counts n m =
    fold after (after (freezing_state pace counts n) (Freeze n))
    (flat_map (λ above. turn_of_host pace.turn counts above (turns_of_host (length counts) pace.turns above + n)) (range_with_len (n + 1) (m - (n + 1))))
