-- A log of any length, of which one segment is kept.
use Rattle.std.specs.Prelude.{◌≡◌, ◌<◌, ◌≤◌, ◌+◌, ◌*◌, ◌^◌, ℕ, List, ◌++◌, length}
use Rattle.cf_row.specs.Row.{RowValue}
use Rattle.cf_shape.specs.Lanes.{ShapeValue}
use Rattle.cf_shape.specs.Nodes.{distinct}
use Rattle.cf_plain.specs.declared.finding.Finding.{Finding}
use Rattle.cf_segments.specs.Blocks.{block}
use Rattle.cf_load.specs.Planned.{asks_of}
use Rattle.cf_load.specs.declared.plan.LivePlan.{LivePlan}
use Rattle.cf_long.specs.ByRow.{AreNumbered}
use Rattle.cf_long.specs.Found.{found_in}
use Rattle.cf_long.specs.Growing.{GrowingValue, HasTaken, IsSmaller, count_in, waiting_in}

-- What is asked, the shape that the next segment is opened with, the segment that rows go to, what was found in the rows before it, and how
-- many these are.
pub record LongValue : Type 0 where
  pub plan : LivePlan
  pub small : ShapeValue
  pub segment : GrowingValue
  pub found : List Finding
  pub gone : ℕ

-- What a segment holds at any time: no more records than its shape has room for, and beside them fewer rows that wait than a batch has.
pub record HoldsFew (segment : GrowingValue) : Type 0 where
  pub records : count_in segment ≤ segment.shape.capacity
  pub waiting : length (waiting_in segment) < 4096

-- the shape of its segments
abbrev pub shape_in : LongValue → ShapeValue
shape_in long = long.segment.shape

-- how many rows came
abbrev pub count_of : LongValue → ℕ
count_of long = long.gone + count_in long.segment

-- the shape and the plan are as they were
pub record KeepsLong (before after : LongValue) : Type 0 where
  pub shape : shape_in after ≡ shape_in before
  pub plan : after.plan ≡ before.plan

-- no block of the rows needs more different nodes than all writers of a segment have
abbrev pub HaveNodes : ShapeValue → List RowValue → Type 0
HaveNodes shape rows = (k : ℕ) → distinct shape (block shape.capacity k rows) ≤ shape.writers * shape.nodes

-- Segments of the rows were let go: that is what the questions and then the triggers of the plan find in them.
pub record IsLetGo (shape : ShapeValue) (plan : LivePlan) (rows : List RowValue) (found : List Finding) : Type 0 where
  pub found_are : found ≡ found_in shape (asks_of plan) rows
  pub nodes : HaveNodes shape rows

-- These rows came, fewer than 2^32 and numbered one by one from 0. The first of them filled whole segments, each of which was asked all
-- that the plan asks and let go. The others are in the one segment that is kept, or wait for it.
pub record IsLong (long : LongValue) (rows : List RowValue) : Type 0 where
  pub smaller : IsSmaller (shape_in long) long.small
  pub gone : List RowValue
  pub here : List RowValue
  pub rows_are : rows ≡ gone ++ here
  pub gone_count : long.gone ≡ length gone
  pub segments : ℕ
  pub whole : length gone ≡ (shape_in long).capacity * segments
  pub let_go : IsLetGo (shape_in long) long.plan gone long.found
  pub taken : HasTaken long.plan long.segment here
  pub few : length rows < 2 ^ 32
  pub numbered : AreNumbered 0 rows

-- some rows came
abbrev pub IsSomeLong : LongValue → Type 0
IsSomeLong long = (rows : List RowValue) × IsLong long rows

-- These rows may come next: they are numbered on, and fewer than 2^32 with those before.
pub record MayFollow (long : LongValue) (rows : List RowValue) : Type 0 where
  pub numbered : AreNumbered (count_of long) rows
  pub few : count_of long + length rows < 2 ^ 32

-- Of all these rows the first ones came, and those that are left did not yet.
pub record TakesSome (old new : LongValue) (all left : List RowValue) : Type 0 where
  pub taken : List RowValue
  pub split : taken ++ left ≡ all
  pub long : (before : List RowValue) → IsLong old before → IsLong new (before ++ taken)
