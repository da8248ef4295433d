-- Numbers of lanes and asks.
use Rattle.std.specs.Prelude.{◌≤◌, length}
use Rattle.cf_setup.specs.Drafts.{DraftValue}

-- the places of lanes and asks are bytes
pub record IsFew (stated : DraftValue) : Type 0 where
  pub lanes : length stated.lanes ≤ 16
  pub asks : length stated.ask_names ≤ 32
