-- One segment of a log, which is opened with few nodes and may be loaded again with more.
use Rattle.std.specs.Prelude.{◌≡◌, ℕ, ◌<◌, ◌≤◌, List, [], ◌++◌, length, All, Option, Some, None}
use Rattle.cf_row.specs.Row.{Fits, RowValue}
use Rattle.cf_shape.specs.Lanes.{ShapeValue}
use Rattle.cf_segments.specs.Segments.{AllowsSegments}
use Rattle.cf_load.specs.Planned.{IsPlan, IsSamePlan}
use Rattle.cf_load.specs.declared.plan.LivePlan.{LivePlan}
use Rattle.cf_fill.specs.Filling.{FillingValue, IsFilled}

-- the shape that it is opened with and the one with as many nodes as it may have; its log, once it is opened; and the rows that it keeps
pub record GrowingValue : Type 0 where
  pub small : ShapeValue
  pub shape : ShapeValue
  pub filling : Option FillingValue
  pub kept : List RowValue

-- the shape with so many nodes
abbrev pub with_nodes : ShapeValue → ℕ → ShapeValue
with_nodes shape nodes = record shape { nodes = nodes }

-- the second shape differs from the first in nothing but its nodes, and has no more of them
pub record IsSmaller (shape small : ShapeValue) : Type 0 where
  pub same : small ≡ with_nodes shape small.nodes
  pub fewer : small.nodes ≤ shape.nodes

-- how many rows came into a log, none before it is opened
abbrev pub count_of_log : Option FillingValue → ℕ
count_of_log None = 0
count_of_log (Some filling) = filling.count

-- how many rows came
abbrev pub count_in : GrowingValue → ℕ
count_in segment = count_of_log segment.filling

-- the rows of a log that wait for the next batch
abbrev pub waiting_of_log : Option FillingValue → List RowValue
waiting_of_log None = []
waiting_of_log (Some filling) = filling.waiting

-- the segment's
abbrev pub waiting_in : GrowingValue → List RowValue
waiting_in segment = waiting_of_log segment.filling

-- these rows came into one segment of the shape, of which is asked what the plan asks
pub record IsFilledAlone (shape : ShapeValue) (plan : LivePlan) (filling : FillingValue) (rows : List RowValue) : Type 0 where
  pub shape_is : filling.segments.shape ≡ shape
  pub one : filling.segments.most ≡ 1
  pub plan_is : IsSamePlan plan filling.loader.plan
  pub filled : IsFilled filling rows

-- the same, or no row came and it is not opened yet
abbrev pub IsFilledIf : ShapeValue → LivePlan → Option FillingValue → List RowValue → Type 0
IsFilledIf shape plan None rows = rows ≡ []
IsFilledIf shape plan (Some filling) rows = IsFilledAlone shape plan filling rows

-- These rows came, no more than the segment may hold. If it has fewer nodes than it may, they are kept.
pub record HasTaken (plan : LivePlan) (segment : GrowingValue) (rows : List RowValue) : Type 0 where
  pub smaller : IsSmaller segment.shape segment.small
  pub allowed : AllowsSegments segment.shape 1
  pub plan_is : IsPlan segment.shape plan
  pub filled : IsFilledIf segment.small plan segment.filling rows
  pub kept : segment.small.nodes < segment.shape.nodes → segment.kept ≡ rows
  pub within : length rows ≤ segment.shape.capacity
  pub fit : All (Fits segment.shape.schema) rows

-- some rows came
abbrev pub HasTakenSome : LivePlan → GrowingValue → Type 0
HasTakenSome plan segment = (rows : List RowValue) × HasTaken plan segment rows

-- these rows came behind those before
abbrev pub TakesMore : LivePlan → GrowingValue → GrowingValue → List RowValue → Type 0
TakesMore plan old new rows = (before : List RowValue) → HasTaken plan old before → HasTaken plan new (before ++ rows)
