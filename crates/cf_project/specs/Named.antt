-- Which attributes a log's lanes and questions name, by their places in the schema.
use Rattle.std.specs.Prelude.{◌≡◌, ℕ, Bool, true, false, ◌&&◌, ◌||◌, ◌==◌, List, length, map}
use Rattle.std.specs.List.{list_any, list_all, range_with_len}
use Rattle.std.specs.declared.option.Option.{Option}
use Rattle.std.specs.declared.option.Option.TheVariants.{Some, None}
use Rattle.cf_row.specs.declared.expr.Atom.{Atom}
use Rattle.cf_row.specs.Schema.{ts_place}
use Rattle.cf_shape.specs.Lanes.{ShapeValue}
use Rattle.cf_shape.specs.declared.lane.Lane.{Lane}
use Rattle.cf_shape.specs.declared.lane.Key.{Key}
use Rattle.cf_shape.specs.declared.lane.Key.TheVariants as keys
use Rattle.cf_plain.specs.declared.ask.Ask.{Ask}
use Rattle.cf_plain.specs.declared.ask.Ask.TheVariants as asks
use Rattle.cf_project.specs.Keeping.{is_kept}

-- an atom of the expression compares the attribute at that place
abbrev pub expr_names : ℕ → List (List Atom) → Bool
expr_names place expr = list_any (list_any (λ atom. atom.attr == place)) expr

-- the key is that attribute, or has it beside the bucket
abbrev pub key_names : ℕ → Key → Bool
key_names place (keys.Attr attr) = attr == place
key_names place keys.Bucket = false
key_names place (keys.BucketBy attr) = attr == place

-- that attribute is measured
abbrev pub measure_names : ℕ → Option ℕ → Bool
measure_names place None = false
measure_names place (Some attr) = attr == place

-- the lane selects, files or measures by it
abbrev pub lane_names : ℕ → Lane → Bool
lane_names place lane = expr_names place lane.select || key_names place lane.key || measure_names place lane.measure

-- the question names it itself, and not by a lane
abbrev pub ask_names : ℕ → Ask → Bool
ask_names place (asks.List expr) = expr_names place expr
ask_names place (asks.Find lane low high) = false
ask_names place (asks.Between lane low high) = false
ask_names place (asks.Measure lane low high) = false
ask_names place (asks.Fired trigger) = false
ask_names place (asks.Top lane part n) = false
ask_names place (asks.Groups lane) = false
ask_names place (asks.Total attr expr) = (attr == place) || expr_names place expr

-- it is `ts`, or a lane or a question names it
abbrev pub is_named : ShapeValue → List Ask → ℕ → Bool
is_named shape questions place = (place == ts_place shape.schema) || list_any (lane_names place) shape.lanes || list_any (ask_names place) questions

-- for each attribute of the schema, whether it is named
abbrev pub named_in : ShapeValue → List Ask → List Bool
named_in shape questions = map (is_named shape questions) (range_with_len 0 (length shape.schema))

-- all attributes of the expression are kept
abbrev pub keeps_expr : List Bool → List (List Atom) → Bool
keeps_expr kept expr = list_all (list_all (λ atom. is_kept kept atom.attr)) expr

-- the key's is, if it has one
abbrev pub keeps_key : List Bool → Key → Bool
keeps_key kept (keys.Attr attr) = is_kept kept attr
keeps_key kept keys.Bucket = true
keeps_key kept (keys.BucketBy attr) = is_kept kept attr

-- what is measured is, if anything
abbrev pub keeps_measure : List Bool → Option ℕ → Bool
keeps_measure kept None = true
keeps_measure kept (Some attr) = is_kept kept attr

-- all that the lane names are
abbrev pub keeps_lane : List Bool → Lane → Bool
keeps_lane kept lane = keeps_expr kept lane.select && keeps_key kept lane.key && keeps_measure kept lane.measure

-- all that the question names itself are
abbrev pub keeps_ask : List Bool → Ask → Bool
keeps_ask kept (asks.List expr) = keeps_expr kept expr
keeps_ask kept (asks.Find lane low high) = true
keeps_ask kept (asks.Between lane low high) = true
keeps_ask kept (asks.Measure lane low high) = true
keeps_ask kept (asks.Fired trigger) = true
keeps_ask kept (asks.Top lane part n) = true
keeps_ask kept (asks.Groups lane) = true
keeps_ask kept (asks.Total attr expr) = is_kept kept attr && keeps_expr kept expr

-- There is a mark for each attribute of the schema. `ts` is kept, and all that the lanes name.
pub record KeepsShape (kept : List Bool) (shape : ShapeValue) : Type 0 where
  pub marks : length kept ≡ length shape.schema
  pub stamp : is_kept kept (ts_place shape.schema) ≡ true
  pub lanes : list_all (keeps_lane kept) shape.lanes ≡ true

-- all that the questions name are kept
abbrev pub KeepsAsks : List Bool → List Ask → Type 0
KeepsAsks kept questions = list_all (keeps_ask kept) questions ≡ true
