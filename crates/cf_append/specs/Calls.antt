-- What the parts of an append do to a writer's pass.
use Rattle.std.specs.Prelude.{ℕ, ◌≡◌, Option, MatchOption, IfNone}
use Rattle.cf_law.specs.Words.{Spot}
use Rattle.cf_law.specs.Passes.{Pass}
use Rattle.cf_table.specs.Loads.{CountsLoads}
use Rattle.cf_table.specs.Values.{PassValue, LogValue, IsOf}
use Rattle.cf_table.specs.Moves.{SeenFirst}
use Rattle.cf_append.specs.Appends.{Rests}
use Rattle.cf_append.specs.Paths.{KeepsSeen, HasUsed, LacksNode}

-- The pass is still one of the log's, has seen as much as before, and loaded no word beside the steps.
pub record HasKept (log : LogValue) (before after : PassValue) (steps later : ℕ) : Type 0 where
  pub of : IsOf after log
  pub strides : KeepsSeen before after
  pub loads : CountsLoads before after steps later

-- The same, and its books are as before.
pub record OnlyReads (log : LogValue) (before after : PassValue) (steps later : ℕ) : Type 0 where
  pub of : IsOf after log
  pub strides : KeepsSeen before after
  pub books : (after.view).books ≡ (before.view).books
  pub loads : CountsLoads before after steps later

-- As `HasKept`, and it is at rest and may have used nodes, each for a spot that is On. An answer has that meaning by the pass. There is none
-- only if one of these spots lacks a node; then what was seen of the pass's own entries are the first of them.
pub record HasMadeNodes {T : Type 0} (log : LogValue) (On : Spot → Type 0) (Means : Pass → T → Type 0) (before after : PassValue) (steps later : ℕ)
    (result : Option T) : Type 0 where
  pub of : IsOf after log
  pub rest : Rests after.view
  pub strides : KeepsSeen before after
  pub used : HasUsed On before after
  pub answer : MatchOption result (LacksNode log.shape On before after) (Means after.view)
  pub begins : IfNone result (SeenFirst after.view)
  pub loads : CountsLoads before after steps later
