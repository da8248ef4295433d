-- A log of any length for a setup, which keeps of each row the attributes that the setup names, and `ts`.
use Rattle.std.specs.Prelude.{◌≡◌, ◌≤◌, ℕ, Bool, List, ◌++◌, length, All, map, Option, Result, Ok, Err}
use Rattle.cf_outside.specs.Files.{File}
use Rattle.cf_row.specs.Row.{Fits, RowValue}
use Rattle.cf_shape.specs.Lanes.{IsShape, ShapeValue}
use Rattle.cf_setup.specs.Setups.{SetupValue, shaped}
use Rattle.cf_intake.specs.Series.{IsSeriesAt}
use Rattle.cf_intake.specs.declared.series.Series.{Series}
use Rattle.cf_project.specs.Named.{KeepsAsks, KeepsShape}
use Rattle.cf_project.specs.Projected.{row_kept, shape_kept}
use Rattle.cf_project.specs.Setups.{named_by, setup_kept}
use Rattle.cf_fill.specs.Logs.{IsPlanOf, IsUnmade}
use Rattle.cf_fill.specs.declared.log.Unmade.{Unmade}
use Rattle.cf_long.specs.Ahead.{IsAhead, most_ahead}
use Rattle.cf_long.specs.declared.ahead.Ahead.{Ahead}
use Rattle.cf_long.specs.Longs.{IsLong, LongValue, MayFollow, shape_in}

-- For each attribute of the rows that come whether it is kept, the shape over all attributes, and the log of what is kept.
pub record KeptLongValue : Type 0 where
  pub kept : List Bool
  pub shape : ShapeValue
  pub long : LongValue

-- These rows came, and what is kept of each is in the log. All that the shape's lanes name is kept, and `ts`.
pub record IsKeptLong (log : KeptLongValue) (rows : List RowValue) : Type 0 where
  pub lawful : IsShape log.shape
  pub keeps : KeepsShape log.kept log.shape
  pub shape_left : shape_in log.long ≡ shape_kept log.kept log.shape
  pub is : IsLong log.long (map (row_kept log.kept) rows)

-- some rows came
abbrev pub IsSomeKept : KeptLongValue → Type 0
IsSomeKept log = (rows : List RowValue) × IsKeptLong log rows

-- This may come next: what is left of rows, of the log's attributes and numbered on.
pub record MayTake (log : KeptLongValue) (left : List RowValue) : Type 0 where
  pub some : IsSomeKept log
  pub fit : All (Fits (shape_in log.long).schema) left
  pub follow : MayFollow log.long left

-- what becomes of rows of which this is left
abbrev pub TakesLeft : KeptLongValue → KeptLongValue → List RowValue → Result (Unit {0}) Unmade → Type 0
TakesLeft old new left (Ok done) =
    (before more : List RowValue) → IsKeptLong old before → left ≡ map (row_kept old.kept) more → IsKeptLong new (before ++ more)
TakesLeft old new left (Err why) =
    (before more : List RowValue) → IsKeptLong old before → left ≡ map (row_kept old.kept) more → IsUnmade old.shape (before ++ more) why

-- Rows were read ahead of the log: these came behind those before, and what is left of them has the log's attributes.
pub record ReadsAhead (old new : Series) (told : Option (List File)) (before now : Option (List ℕ)) (log : KeptLongValue) (ahead : Ahead) : Type 0 where
  pub behind : (rows : List RowValue) → IsSeriesAt old told before rows → IsAhead new told now log.kept rows ahead
  pub fit : All (Fits (shape_in log.long).schema) ahead.rows.items
  pub few : length ahead.rows.items ≤ most_ahead

-- what is kept, the shapes and the plan are as they were
pub record KeepsKept (before after : KeptLongValue) : Type 0 where
  pub kept : after.kept ≡ before.kept
  pub shape : after.shape ≡ before.shape
  pub plan : after.long.plan ≡ before.long.plan

-- The same of a log of a setup, in segments of those sizes, of which is asked what the setup asks, and nothing live. The attributes that the
-- setup names are kept, and no other but `ts`.
pub record IsLongFor (setup : SetupValue) (capacity writers nodes : ℕ) (log : KeptLongValue) (rows : List RowValue) : Type 0 where
  pub shape : log.shape ≡ shaped setup capacity writers nodes
  pub kept : log.kept ≡ named_by setup
  pub asks : KeepsAsks log.kept setup.asks
  pub plan : IsPlanOf (setup_kept log.kept setup) 0 log.long.plan
  pub is : IsKeptLong log rows
