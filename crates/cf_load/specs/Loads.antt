-- What a load answers.
use Rattle.std.specs.Prelude.{◌≡◌, ◌⊎◌, ◌<◌, ◌≤◌, ◌*◌, ℕ, List, ◌++◌, length, map, take, Option, Some, None, Result, Ok, Err}
use Rattle.std.specs.declared.alloc.AllocError.{AllocError}
use Rattle.cf_row.specs.Row.{RowValue}
use Rattle.cf_shape.specs.Nodes.{distinct}
use Rattle.cf_plain.specs.Order.{rows_of, written_by}
use Rattle.cf_plain.specs.Answered.{LoadedValue, answer_on}
use Rattle.cf_load.specs.declared.plan.LivePlan.{LivePlan}
use Rattle.cf_load.specs.declared.loads.LoadFault.{LoadFault}
use Rattle.cf_load.specs.declared.loads.LoadFault.TheVariants.{Full, NodesFull, Memory}
use Rattle.cf_segments.specs.Blocks.{block}
use Rattle.cf_load.specs.Loading.{HasAnswered}
use Rattle.cf_segments.specs.Needed.{HasRunOut}
use Rattle.cf_load.specs.Planned.{marks_on, tails_of}
use Rattle.cf_segments.specs.Segments.{SegmentsValue, IsSegments, HoldsRows, SegmentsGoOn, base_of, entries_of, room_of, told_of}

-- All rows are in the segments, each once, the books are home, and each answer is its question's meaning: the final ones and the
-- marks on all entries, the live ones, in their turns, on as many of them as they saw. The roots were told of the live ones.
pub record IsLoaded (rows : List RowValue) (plan : LivePlan) (before after : SegmentsValue) (answered : LoadedValue) : Type 0 where
  pub few : length rows ≤ room_of before
  pub same : SegmentsGoOn before after
  pub loaded : HoldsRows after rows
  pub finals : answered.finals ≡ map (answer_on before.shape (entries_of after)) plan.asks.items
  pub alerts : answered.alerts ≡ map (marks_on before.shape (entries_of after)) plan.triggers.items
  pub lives : HasAnswered before.shape plan.asks.items plan.lives.items plan.rounds (length rows) (entries_of after) answered.lives
  pub told : told_of after ≡ told_of before ++ tails_of answered.lives
  pub few_nodes : (k : ℕ) → distinct before.shape (block (before.shape).capacity k rows) ≤ (before.shape).writers * (before.shape).nodes

-- A block of the rows needs more different nodes than a writer has, and in the current segment that writer's own are used up, while
-- the next of its rows wants one more. All books are home, and each writer's entries are the first of its rows.
pub record LacksNodes (s : SegmentsValue) (rows : List RowValue) (writer : ℕ) : Type 0 where
  pub are : IsSegments s
  pub exists : writer < (s.shape).writers
  pub place : ℕ
  pub many : (s.shape).nodes < distinct s.shape (block (s.shape).capacity place rows)
  pub out : HasRunOut s.shape (base_of s) (block (s.shape).capacity (length s.closed) rows) writer s.current.root.view
  pub fronts : (w : ℕ) → w < (s.shape).writers → (left : List RowValue) × (written_by w (entries_of s) ++ left ≡ rows_of (s.shape).writers w 0 rows)

-- the segments hold the first of these rows
abbrev pub HoldsSome : SegmentsValue → List RowValue → Type 0
HoldsSome s rows = (count : ℕ) × HoldsRows s (take count rows)

-- a writer that ran out of nodes goes before want of memory
abbrev pub outcome_of : {T : Type 0} → Option ℕ → Result T AllocError → Result T LoadFault
outcome_of (Some writer) answers = Err (NodesFull writer)
outcome_of None (Ok more) = Ok more
outcome_of None (Err fault) = Err Memory

-- what the segments hold after a fault in a batch: where memory is wanted, the rows before it alone or all rows of the batch too
abbrev pub HaveStopped : List RowValue → List RowValue → SegmentsValue → LoadFault → Type 0
HaveStopped before rows s Full = ⊥
HaveStopped before rows s (NodesFull writer) = LacksNodes s (before ++ rows) writer
HaveStopped before rows s Memory = HoldsRows s before ⊎ HoldsRows s (before ++ rows)

-- what the segments hold after a fault in some batch of those rows
abbrev pub HasSome : List RowValue → SegmentsValue → LoadFault → Type 0
HasSome rows s Full = ⊥
HasSome rows s (NodesFull writer) = LacksNodes s rows writer
HasSome rows s Memory = HoldsSome s rows

-- Full exactly where there are more rows than the segments have room for, and then nothing was done. After another fault the books are
-- home, and some of the rows are in the segments.
abbrev pub Loads : List RowValue → LivePlan → SegmentsValue → SegmentsValue → Result LoadedValue LoadFault → Type 0
Loads rows plan s t (Ok answered) = IsLoaded rows plan s t answered
Loads rows plan s t (Err Full) = (room_of s < length rows) × (t ≡ s)
Loads rows plan s t (Err (NodesFull writer)) = (length rows ≤ room_of s) × SegmentsGoOn s t × LacksNodes t rows writer
Loads rows plan s t (Err Memory) = (length rows ≤ room_of s) × SegmentsGoOn s t × HoldsSome t rows
