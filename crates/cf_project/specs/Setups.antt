-- What is left of a setup where only some attributes are kept.
use Rattle.std.specs.Prelude.{ℕ, Bool, List, map}
use Rattle.cf_setup.specs.Setups.{IsSetup, SetupValue, shaped}
use Rattle.cf_project.specs.Keeping.{keep}
use Rattle.cf_project.specs.Named.{KeepsAsks, KeepsShape, named_in}
use Rattle.cf_project.specs.Projected.{ask_kept, lane_kept}

-- the setup over the attributes that are kept; its names, its triggers and all else stay
abbrev pub setup_kept : List Bool → SetupValue → SetupValue
setup_kept kept setup = record setup { schema = keep kept setup.schema; lanes = map (lane_kept kept) setup.lanes; asks = map (ask_kept kept) setup.asks }

-- All is kept that the setup's lanes and questions name, whatever sizes its log has, and `ts`.
pub record KeepsSetup (kept : List Bool) (setup : SetupValue) : Type 0 where
  pub shape : (capacity writers nodes : ℕ) → KeepsShape kept (shaped setup capacity writers nodes)
  pub asks : KeepsAsks kept setup.asks

-- for each attribute of the setup's schema, whether it is `ts`, or a lane or a question names it; sizes do not count
abbrev pub named_by : SetupValue → List Bool
named_by setup = named_in (shaped setup 1 1 0) setup.asks

-- What is left of a setup is one.
abbrev pub KeptSetupsAreSetups : Type 0
KeptSetupsAreSetups = (kept : List Bool) (setup : SetupValue) → KeepsSetup kept setup → IsSetup setup → IsSetup (setup_kept kept setup)

-- The attributes that a setup names are all that it needs.
abbrev pub SetupsKeepNamed : Type 0
SetupsKeepNamed = (setup : SetupValue) → IsSetup setup → KeepsSetup (named_by setup) setup
