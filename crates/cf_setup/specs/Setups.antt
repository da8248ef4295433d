-- A setup as contracts see it, and what is true of one.
use Rattle.std.specs.Prelude.{◌≡◌, ℕ, ◌≤◌, ◌^◌, true, nat_lt, List, length, Some, None}
use Rattle.std.specs.List.{list_all}
use Rattle.std.specs.Option.{unwrap_or}
use Rattle.cf_row.specs.declared.schema.Attr.{Attr}
use Rattle.cf_row.specs.Schema.{IsSchema}
use Rattle.cf_fold.specs.declared.trigger.Trigger.{Trigger}
use Rattle.cf_shape.specs.declared.lane.Lane.{Lane}
use Rattle.cf_shape.specs.Lanes.{ShapeValue, is_lawful_lane}
use Rattle.cf_plain.specs.declared.ask.Ask.{Ask}
use Rattle.cf_plain.specs.Asks.{suits_of, suits_trigger}
use Rattle.cf_setup.specs.declared.source.Source.{Source}
use Rattle.cf_setup.specs.Drafts.{DraftValue, nothing_stated}

-- lanes, triggers and asks go by their places, each with the name at the same place
pub record SetupValue : Type 0 where
  pub source : Source
  pub schema_line : ℕ
  pub schema : List Attr
  pub width : ℕ
  pub lanes : List Lane
  pub triggers : List Trigger
  pub asks : List Ask
  pub lives : List ℕ
  pub lane_names : List (List ℕ)
  pub trigger_names : List (List ℕ)
  pub ask_names : List (List ℕ)

-- what is stated, over these attributes; a bucket is a second wide where no width is stated
abbrev pub settled : DraftValue → List Attr → SetupValue
settled stated attrs = record {
  source = stated.source;
  schema_line = stated.schema_line;
  schema = attrs;
  width = unwrap_or stated.width 1000000000;
  lanes = stated.lanes;
  triggers = stated.triggers;
  asks = stated.asks;
  lives = stated.lives;
  lane_names = stated.lane_names;
  trigger_names = stated.trigger_names;
  ask_names = stated.ask_names;
}

-- the setup's shape with that many tickets, writers and nodes
abbrev pub shaped : SetupValue → ℕ → ℕ → ℕ → ShapeValue
shaped setup capacity writers nodes =
    record { schema = setup.schema; lanes = setup.lanes; capacity = capacity; writers = writers; nodes = nodes; width = setup.width }

-- its lanes are lawful over its schema, its triggers and asks suit its shape, and each has a name
pub record IsSetup (setup : SetupValue) : Type 0 where
  pub schema : IsSchema setup.schema
  pub width : (1 ≤ setup.width) × (setup.width ≤ 2 ^ 63)
  pub few_lanes : length setup.lanes ≤ 16
  pub few_triggers : length setup.triggers ≤ 16
  pub few_asks : length setup.asks ≤ 32
  pub lanes : list_all (is_lawful_lane setup.schema) setup.lanes ≡ true
  pub triggers : (capacity writers nodes : ℕ) → list_all (suits_trigger (shaped setup capacity writers nodes)) setup.triggers ≡ true
  pub asks : (capacity writers nodes : ℕ) → list_all (suits_of (shaped setup capacity writers nodes)) setup.asks ≡ true
  pub lives : list_all (λ live. nat_lt live (length setup.asks)) setup.lives ≡ true
  pub lane_names : length setup.lane_names ≡ length setup.lanes
  pub trigger_names : length setup.trigger_names ≡ length setup.triggers
  pub ask_names : length setup.ask_names ≡ length setup.asks

-- what is stated before the schema is nothing, and then it is a setup
pub record IsDraft (stated : DraftValue) : Type 0 where
  pub unstated : stated.schema ≡ None → stated ≡ nothing_stated
  pub lawful : (attrs : List Attr) → stated.schema ≡ Some attrs → IsSetup (settled stated attrs)
