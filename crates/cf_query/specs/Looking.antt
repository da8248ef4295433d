-- What looking at an entry's words needs, and what it does to the pass that looks.
use Rattle.std.specs.Prelude.{ℕ, ◌≡◌, ◌<◌, length}
use Rattle.cf_shape.specs.Lanes.{ShapeValue}
use Rattle.cf_table.specs.Values.{PassValue, LogValue, IsOf}
use Rattle.cf_table.specs.Moves.{OnlyLooked}
use Rattle.cf_table.specs.Loads.{CountsLoads}

-- The pass only looked at words, and no word was loaded beside the steps.
pub record HasLooked (before after : PassValue) (steps_before steps_after : ℕ) : Type 0 where
  pub only : OnlyLooked before after
  pub loads : CountsLoads before after steps_before steps_after

-- the pass is one of the log's, and has seen the entry at that offset
pub record IsCovered (log : LogValue) (pass : PassValue) (offset : ℕ) : Type 0 where
  pub of : IsOf pass log
  pub within : offset < length (pass.view).seen

-- It has seen the entry, and this is the log's shape, which has a lane of that number.
pub record IsLaneEntry (log : LogValue) (shape : ShapeValue) (lane : ℕ) (pass : PassValue) (offset : ℕ) : Type 0 where
  pub entry : IsCovered log pass offset
  pub same : shape ≡ log.shape
  pub exists : lane < length shape.lanes
