-- A log that rows fill as they come.
use Rattle.std.specs.Prelude.{◌≡◌, ◌⊎◌, ℕ, ◌+◌, ◌<◌, ◌≤◌, ◌%◌, min, true, false, List, [], ◌++◌, length, take, All}
use Rattle.cf_row.specs.Row.{RowValue, Fits}
use Rattle.cf_segments.specs.Segments.{SegmentsValue, AllowsSegments, base_of, room_of, told_of}
use Rattle.cf_load.specs.Loaders.{LoaderValue, IsLoading, MayLoad}
use Rattle.cf_load.specs.Loads.{LacksNodes}
use Rattle.cf_load.specs.Planned.{tails_of}
use Rattle.cf_command.specs.Call.{AreSizes}
use Rattle.cf_command.specs.declared.words.LogSizes.{LogSizes}
use Rattle.cf_setup.specs.Setups.{SetupValue}
use Rattle.cf_shape.specs.Lanes.{ShapeValue}
use Rattle.cf_load.specs.declared.plan.LivePlan.{LivePlan}
use Rattle.cf_fill.specs.Logs.{IsPlanOf}
use Rattle.cf_fill.specs.Work.{shape_for}

-- The segments and the loader of a log, the rows that wait for the next batch, and how many rows came, up to one more than all segments
-- have room for.
pub record FillingValue : Type 0 where
  pub segments : SegmentsValue
  pub loader : LoaderValue
  pub waiting : List RowValue
  pub count : ℕ

-- the shape, the most segments and the plan are as they were
pub record KeepsLog (before after : FillingValue) : Type 0 where
  pub shape : after.segments.shape ≡ before.segments.shape
  pub most : after.segments.most ≡ before.segments.most
  pub plan : after.loader.plan ≡ before.loader.plan

-- The loader has loaded these rows, and the roots were told of the tails of its live answers. A segment was opened behind the first only
-- for a row that it has.
pub record IsLoadedSo (s : SegmentsValue) (rows : List RowValue) (loader : LoaderValue) : Type 0 where
  pub loading : IsLoading s rows loader
  pub told : told_of s ≡ tails_of loader.lives
  pub begun : 0 < length s.closed → base_of s < length rows

-- the same of a loader of that plan, into segments of that shape
pub record IsLoadedFor (shape : ShapeValue) (plan : LivePlan) (rows : List RowValue) (s : SegmentsValue) (loader : LoaderValue) : Type 0 where
  pub shape_is : s.shape ≡ shape
  pub plan_is : loader.plan ≡ plan
  pub so : IsLoadedSo s rows loader

-- these rows are loaded, or lack nodes, which stopped the loader
abbrev pub AreLoaded : SegmentsValue → List RowValue → LoaderValue → Type 0
AreLoaded s rows loader = IsLoadedSo s rows loader ⊎ ((loader.stopped ≡ true) × ((writer : ℕ) × LacksNodes s rows writer))

-- A batch waits for the loader, which has loaded rows before it. Its rows fit, may be loaded at once, and there is room for them.
pub record HasBatch (s : SegmentsValue) (waiting : List RowValue) (loader : LoaderValue) : Type 0 where
  pub before : List RowValue
  pub loaded : IsLoadedSo s before loader
  pub some : 0 < length waiting
  pub may : MayLoad s loader.plan loader.count (length waiting)
  pub room : length before + length waiting ≤ room_of s
  pub fit : All (Fits (s.shape).schema) waiting

-- what loading the rows that wait comes to
abbrev pub LoadsWaiting : List RowValue → SegmentsValue → SegmentsValue → LoaderValue → LoaderValue → Type 0
LoadsWaiting waiting s t old new = (before : List RowValue) → IsLoadedSo s before old → AreLoaded t (before ++ waiting) new

-- Rows wait for the loader, which has loaded rows before them, with rounds whole batches. They fit, and there is room for them.
pub record HasRows (segments : SegmentsValue) (waiting : List RowValue) (loader : LoaderValue) : Type 0 where
  pub before : List RowValue
  pub loaded : IsLoadedSo segments before loader
  pub whole : 0 < loader.plan.rounds → length before % 4096 ≡ 0
  pub room : length before + length waiting ≤ room_of segments
  pub fit : All (Fits (segments.shape).schema) waiting

-- So many of the rows that wait were loaded, in whole batches. Those behind them are fewer than a batch, or the loader was stopped.
pub record LoadsWhole (count : ℕ) (waiting : List RowValue) (segments segments_then : SegmentsValue) (old new : LoaderValue) : Type 0 where
  pub within : count ≤ length waiting
  pub whole : count % 4096 ≡ 0
  pub few : new.stopped ≡ false → length waiting < count + 4096
  pub loads : LoadsWaiting (take count waiting) segments segments_then old new

-- All rows but those that wait are loaded, with rounds in whole batches. With none no row waits.
pub record AwaitsBatch (s : SegmentsValue) (rows waiting : List RowValue) (loader : LoaderValue) : Type 0 where
  pub before : List RowValue
  pub rows_are : rows ≡ before ++ waiting
  pub whole : 0 < loader.plan.rounds → length before % 4096 ≡ 0
  pub few : length waiting < 4096
  pub none : loader.plan.rounds ≡ 0 → waiting ≡ []
  pub loaded : IsLoadedSo s before loader

-- These rows came. They are counted up to one more than all segments have room for. While they are no more than that, they are loaded, with
-- rounds batch by batch, or their paths lack nodes. Where no more is loaded, none waits.
pub record IsFilled (filling : FillingValue) (rows : List RowValue) : Type 0 where
  pub allowed : AllowsSegments filling.segments.shape filling.segments.most
  pub count_is : filling.count ≡ min (length rows) (room_of filling.segments + 1)
  pub fit : All (Fits (filling.segments.shape).schema) rows
  pub going : filling.loader.stopped ≡ false → length rows ≤ room_of filling.segments → AwaitsBatch filling.segments rows filling.waiting filling.loader
  pub lacking : filling.loader.stopped ≡ true → (writer : ℕ) × LacksNodes filling.segments rows writer
  pub idle : (filling.loader.stopped ≡ true) ⊎ (room_of filling.segments < length rows) → filling.waiting ≡ []

-- These rows came, behind others that are all loaded, and there is room for them. No round is made, and the loader goes on.
pub record HasCome (filling : FillingValue) (before rows : List RowValue) : Type 0 where
  pub allowed : AllowsSegments filling.segments.shape filling.segments.most
  pub count_is : filling.count ≡ length before + length rows
  pub few : length before + length rows ≤ room_of filling.segments
  pub fit : All (Fits (filling.segments.shape).schema) (before ++ rows)
  pub quiet : filling.loader.plan.rounds ≡ 0
  pub none : filling.waiting ≡ []
  pub loaded : IsLoadedSo filling.segments before filling.loader

-- These rows came, and there is room for them. Rounds are made. All but those that wait are loaded, in whole batches, and the loader goes on.
pub record IsWaiting (filling : FillingValue) (rows : List RowValue) : Type 0 where
  pub due : 0 < filling.loader.plan.rounds
  pub allowed : AllowsSegments filling.segments.shape filling.segments.most
  pub count_is : filling.count ≡ length rows
  pub few : length rows ≤ room_of filling.segments
  pub fit : All (Fits (filling.segments.shape).schema) rows
  pub going : filling.loader.stopped ≡ false
  pub before : List RowValue
  pub rows_are : rows ≡ before ++ filling.waiting
  pub whole : length before % 4096 ≡ 0
  pub loaded : IsLoadedSo filling.segments before filling.loader

-- some rows came
abbrev pub IsFilling : FillingValue → Type 0
IsFilling filling = (rows : List RowValue) × IsFilled filling rows

-- these rows came behind those before
abbrev pub Fills : FillingValue → FillingValue → List RowValue → Type 0
Fills old new rows = (before : List RowValue) → IsFilled old before → IsFilled new (before ++ rows)

-- the most rows that wait for a batch
abbrev pub most_waiting : ℕ
most_waiting = 8191

-- How many rows wait for a batch while those at hand are loaded, and so many more were read. Of fewer than two batches at hand, a whole one
-- is being loaded, and the others wait.
abbrev pub rows_waiting : ℕ → ℕ → ℕ
rows_waiting at_hand ahead = at_hand % 4096 + ahead

-- Few rows wait meanwhile. With no round all at hand are being loaded, so these are the ones that were read.
abbrev pub WaitFew : LivePlan → ℕ → ℕ → Type 0
WaitFew plan at_hand ahead = (ahead ≤ most_waiting) × (0 < plan.rounds → rows_waiting at_hand ahead ≤ most_waiting)

-- These rows came into a log of the setup's shape and of so many segments, of which is asked what the setup asks.
pub record IsFilledFor (setup : SetupValue) (sizes : LogSizes) (rounds : ℕ) (filling : FillingValue) (rows : List RowValue) : Type 0 where
  pub shape : filling.segments.shape ≡ shape_for setup sizes
  pub most : filling.segments.most ≡ sizes.segments
  pub plan : IsPlanOf setup rounds filling.loader.plan
  pub filled : IsFilled filling rows

-- some rows came into a log that is filled for a setup
abbrev pub IsFillingFor : SetupValue → FillingValue → Type 0
IsFillingFor setup filling = (sizes : LogSizes) × (rounds : ℕ) × (rows : List RowValue) × AreSizes sizes × IsFilledFor setup sizes rounds filling rows
