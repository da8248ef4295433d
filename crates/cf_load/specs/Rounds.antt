-- What the reader was answered beside a batch.
use Rattle.std.specs.Prelude.{ℕ, List, ◌++◌}
use Rattle.cf_shape.specs.Lanes.{ShapeValue}
use Rattle.cf_plain.specs.declared.loaded.Live.{Live}
use Rattle.cf_table.specs.Values.{PassValue}
use Rattle.cf_load.specs.declared.plan.LivePlan.{LivePlan}
use Rattle.cf_load.specs.declared.prior.FoundBefore.{FoundBefore}
use Rattle.cf_load.specs.Loading.{AsksBatch, AsksSome}
use Rattle.cf_load.specs.Planned.{HasRead}
use Rattle.cf_load.specs.Priors.{entries_before}

module _ (shape : ShapeValue) (plan : LivePlan) (prior : FoundBefore) (batch : ℕ) where
  -- The reader began as the first pass and is now the second. It was answered in all turns of some rounds, and in the first turns of
  -- the next round, as many as were asked in it.
  pub record HasAskedSome (rounds asked : ℕ) (start reader : PassValue) (answers : List Live) : Type 0 where
    pub asks : AsksSome shape plan.asks.items plan.lives.items rounds asked batch (entries_before prior ++ (start.view).seen)
        (entries_before prior ++ (reader.view).seen) answers
    pub read : HasRead prior.base start reader answers

  -- it was answered in all rounds
  pub record HasAskedAll (start reader : PassValue) (answers : List Live) : Type 0 where
    pub asks : AsksBatch shape plan.asks.items plan.lives.items plan.rounds batch (entries_before prior ++ (start.view).seen)
        (entries_before prior ++ (reader.view).seen) answers
    pub read : HasRead prior.base start reader answers
