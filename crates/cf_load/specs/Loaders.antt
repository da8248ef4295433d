-- A loader: what it has loaded so far, and what each of its calls answers.
use Rattle.std.specs.Prelude.{◌≡◌, ◌⊎◌, ◌<◌, ◌≤◌, ◌+◌, ◌*◌, ◌%◌, ℕ, Bool, false, List, [], ◌++◌, length, map, All}
use Rattle.cf_row.specs.Row.{RowValue, Fits}
use Rattle.cf_shape.specs.Nodes.{distinct}
use Rattle.cf_plain.specs.Answered.{LoadedValue, answer_on}
use Rattle.cf_plain.specs.declared.finding.Finding.{Finding}
use Rattle.cf_plain.specs.declared.loaded.Live.{Live}
use Rattle.cf_table.specs.Moves.{Begins}
use Rattle.cf_load.specs.declared.plan.LivePlan.{LivePlan}
use Rattle.cf_load.specs.declared.loads.LoadFault.{LoadFault}
use Rattle.cf_load.specs.declared.prior.FoundBefore.{FoundBefore}
use Rattle.cf_load.specs.declared.loads.LoadFault.TheVariants.{Full, NodesFull, Memory}
use Rattle.cf_segments.specs.Blocks.{block}
use Rattle.cf_load.specs.Loading.{HasAnswered, StayInBatch}
use Rattle.cf_load.specs.Loads.{LacksNodes}
use Rattle.cf_segments.specs.Segments.{SegmentsValue, HoldsRows, SegmentsGoOn, KeepsAll, base_of, entries_of, room_of, told_of}
use Rattle.cf_load.specs.Planned.{IsPlan, IsSamePlan, asks_of, finding_on, marks_on, tails_of}
use Rattle.cf_load.specs.Priors.{KnowsBefore}

-- what it asks, how many rows it has loaded, the live answers so far, whether a batch was refused, and what the live questions found
-- before the current segment
pub record LoaderValue : Type 0 where
  pub plan : LivePlan
  pub count : ℕ
  pub lives : List Live
  pub stopped : Bool
  pub found : FoundBefore

-- a loader of that plan before its first batch
pub record IsFresh (plan : LivePlan) (loader : LoaderValue) : Type 0 where
  pub plan_is : IsSamePlan plan loader.plan
  pub count : loader.count ≡ 0
  pub lives : loader.lives ≡ []
  pub going : loader.stopped ≡ false

-- The loader and the segments have loaded just those rows, and no batch was refused. The entries of all segments are a log of the
-- rows, and the loader has the live answers that came beside them, each in its turn, and knows what the live questions found in the
-- closed segments.
pub record IsLoading (s : SegmentsValue) (rows : List RowValue) (loader : LoaderValue) : Type 0 where
  pub plan : IsPlan s.shape loader.plan
  pub going : loader.stopped ≡ false
  pub count : loader.count ≡ length rows
  pub few : length rows ≤ room_of s
  pub fit : All (Fits (s.shape).schema) rows
  pub loaded : HoldsRows s rows
  pub answered : HasAnswered s.shape loader.plan.asks.items loader.plan.lives.items loader.plan.rounds (length rows) (entries_of s) loader.lives
  pub known : KnowsBefore s loader.plan loader.found

-- So many rows more are in one segment: the current one has room for them, or it is full, and the next has.
abbrev pub StayInSegment : SegmentsValue → ℕ → ℕ → Type 0
StayInSegment s count more = (count + more ≤ base_of s + (s.shape).capacity) ⊎ ((count ≡ base_of s + (s.shape).capacity) × (more ≤ (s.shape).capacity))

-- Behind so many rows so many more may be loaded at once. With rounds they are a batch, or the last rows. With none they may be any
-- number that stays in a segment, and with several writers in a batch.
pub record MayLoad (s : SegmentsValue) (plan : LivePlan) (count more : ℕ) : Type 0 where
  pub whole : 0 < plan.rounds → count % 4096 ≡ 0
  pub few : 0 < plan.rounds → more ≤ 4096
  pub batch : plan.rounds ≡ 0 → StayInBatch s.shape count more
  pub segment : plan.rounds ≡ 0 → StayInSegment s count more

-- A batch is loaded after the rows before it, and the current segment has all its rows. The loader has the answers that came beside
-- it, and a root was told of them.
pub record IsBatched (before rows : List RowValue) (old new : LoaderValue) (s t : SegmentsValue) : Type 0 where
  pub same : SegmentsGoOn s t
  pub within : base_of t ≤ length before
  pub more : List Live
  pub loader : new ≡ record old { count = old.count + length rows; lives = old.lives ++ more; found = new.found }
  pub told : told_of t ≡ told_of s ++ tails_of more
  pub longer : Begins (entries_of s) (entries_of t)
  pub loading : IsLoading t (before ++ rows) new

-- What a refused batch leaves. Full comes where the rows before it and its own are more than the segments have room for, and then
-- nothing was done. After another fault the books are home: after want of nodes each writer's entries are the first of its rows;
-- after want of memory the segments have all rows of the batch, or none.
abbrev pub IsRefused : List RowValue → List RowValue → SegmentsValue → SegmentsValue → LoadFault → Type 0
IsRefused before rows s t Full = (room_of s < length before + length rows) × (t ≡ s)
IsRefused before rows s t (NodesFull writer) = (length before + length rows ≤ room_of s) × SegmentsGoOn s t × LacksNodes t (before ++ rows) writer
IsRefused before rows s t Memory = (length before + length rows ≤ room_of s) × SegmentsGoOn s t × (HoldsRows t before ⊎ HoldsRows t (before ++ rows))

-- The answers at the end: the final ones and the marks on all entries, which stay as they are, and the live ones that came before.
pub record IsFinished (rows : List RowValue) (loader : LoaderValue) (before after : SegmentsValue) (answered : LoadedValue) : Type 0 where
  pub keeps : KeepsAll before after
  pub loaded : HoldsRows after rows
  pub told : told_of after ≡ told_of before
  pub finals : answered.finals ≡ map (answer_on before.shape (entries_of after)) loader.plan.asks.items
  pub alerts : answered.alerts ≡ map (marks_on before.shape (entries_of after)) loader.plan.triggers.items
  pub lives_are : answered.lives ≡ loader.lives
  pub lives : HasAnswered before.shape loader.plan.asks.items loader.plan.lives.items loader.plan.rounds (length rows) (entries_of after) answered.lives
  pub few_nodes : (k : ℕ) → distinct before.shape (block (before.shape).capacity k rows) ≤ (before.shape).writers * (before.shape).nodes

-- What every question and then every trigger finds in all entries, which stay as they are.
pub record IsFoundIn (rows : List RowValue) (loader : LoaderValue) (before after : SegmentsValue) (found : List Finding) : Type 0 where
  pub keeps : KeepsAll before after
  pub loaded : HoldsRows after rows
  pub found_are : found ≡ map (finding_on before.shape (entries_of after)) (asks_of loader.plan)
  pub few_nodes : (k : ℕ) → distinct before.shape (block (before.shape).capacity k rows) ≤ (before.shape).writers * (before.shape).nodes
