-- What the statements so far have stated.
use Rattle.std.specs.Prelude.{ℕ, List, [], ◌∷◌, ◌++◌, Option, Some, None}
use Rattle.std.specs.Option.{unwrap_or}
use Rattle.cf_row.specs.declared.schema.Attr.{Attr}
use Rattle.cf_row.specs.declared.expr.Atom.{Atom}
use Rattle.cf_fold.specs.declared.trigger.Trigger.{Trigger}
use Rattle.cf_shape.specs.declared.lane.Lane.{Lane}
use Rattle.cf_shape.specs.declared.lane.Key.TheVariants as keys
use Rattle.cf_plain.specs.declared.ask.Ask.{Ask}
use Rattle.cf_setup.specs.declared.source.Source.{Source}
use Rattle.cf_setup.specs.declared.source.Source.TheVariants.{Records}

-- the lanes stand in the order of their statements, whatever their kind
pub record DraftValue : Type 0 where
  pub source : Source
  pub schema_line : ℕ
  pub schema : Option (List Attr)
  pub width : Option ℕ
  pub lanes : List Lane
  pub triggers : List Trigger
  pub asks : List Ask
  pub lives : List ℕ
  pub lane_names : List (List ℕ)
  pub trigger_names : List (List ℕ)
  pub ask_names : List (List ℕ)

-- before the first line
abbrev pub nothing_stated : DraftValue
nothing_stated =
    record {
      source = Records;
      schema_line = 0;
      schema = None;
      width = None;
      lanes = [];
      triggers = [];
      asks = [];
      lives = [];
      lane_names = [];
      trigger_names = [];
      ask_names = [];
    }

-- the attributes, once the schema is stated
abbrev pub attrs_of : DraftValue → List Attr
attrs_of stated = unwrap_or stated.schema []

-- one lane more
abbrev pub with_lane : DraftValue → List ℕ → Lane → DraftValue
with_lane before name lane = record before { lanes = before.lanes ++ lane ∷ []; lane_names = before.lane_names ++ name ∷ [] }

-- one trigger more
abbrev pub with_trigger : DraftValue → List ℕ → Trigger → DraftValue
with_trigger before name trigger = record before { triggers = before.triggers ++ trigger ∷ []; trigger_names = before.trigger_names ++ name ∷ [] }

-- one ask more
abbrev pub with_ask : DraftValue → List ℕ → Ask → DraftValue
with_ask before name ask = record before { asks = before.asks ++ ask ∷ []; ask_names = before.ask_names ++ name ∷ [] }

-- all rows, by the value of an attribute
abbrev pub index_over : ℕ → Lane
index_over attr = record { select = [] ∷ []; key = keys.Attr attr; measure = None }

-- the rows of an expression, by their buckets
abbrev pub filter_by : List (List Atom) → Lane
filter_by expr = record { select = expr; key = keys.Bucket; measure = None }

-- the same, with an attribute that is measured
abbrev pub aggregate_by : List (List Atom) → ℕ → Lane
aggregate_by expr attr = record { select = expr; key = keys.Bucket; measure = Some attr }

-- the same, with the rows of a bucket kept apart by the value of another attribute
abbrev pub keyed_aggregate_by : List (List Atom) → ℕ → ℕ → Lane
keyed_aggregate_by expr attr key = record { select = expr; key = keys.BucketBy key; measure = Some attr }

-- the rows of an expression, by the value of an attribute, with another that is measured
abbrev pub tally_by : List (List Atom) → ℕ → ℕ → Lane
tally_by expr attr measure = record { select = expr; key = keys.Attr attr; measure = Some measure }
