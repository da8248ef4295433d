-- What is left of a log's shape, of a question and of a row where only some attributes are kept: the others go, and those that are kept
-- are named by their new places.
use Rattle.std.specs.Prelude.{ℕ, Bool, List, map}
use Rattle.std.specs.declared.option.Option.{Option}
use Rattle.std.specs.declared.option.Option.TheVariants.{Some, None}
use Rattle.cf_row.specs.declared.expr.Atom.{Atom}
use Rattle.cf_row.specs.Row.{RowValue}
use Rattle.cf_shape.specs.Lanes.{ShapeValue}
use Rattle.cf_shape.specs.declared.lane.Lane.{Lane}
use Rattle.cf_shape.specs.declared.lane.Key.{Key}
use Rattle.cf_shape.specs.declared.lane.Key.TheVariants as keys
use Rattle.cf_plain.specs.declared.ask.Ask.{Ask}
use Rattle.cf_plain.specs.declared.ask.Ask.TheVariants as asks
use Rattle.cf_project.specs.Keeping.{keep, new_place}

-- a row with the values that are kept
abbrev pub row_kept : List Bool → RowValue → RowValue
row_kept kept row = record { num = row.num; values = keep kept row.values }

-- the atom, of its attribute's new place
abbrev pub atom_kept : List Bool → Atom → Atom
atom_kept kept atom = record { attr = new_place kept atom.attr; op = atom.op; low = atom.low; high = atom.high }

-- the expression, of the new places
abbrev pub expr_kept : List Bool → List (List Atom) → List (List Atom)
expr_kept kept expr = map (map (atom_kept kept)) expr

abbrev pub key_kept : List Bool → Key → Key
key_kept kept (keys.Attr attr) = keys.Attr (new_place kept attr)
key_kept kept keys.Bucket = keys.Bucket
key_kept kept (keys.BucketBy attr) = keys.BucketBy (new_place kept attr)

abbrev pub measure_kept : List Bool → Option ℕ → Option ℕ
measure_kept kept None = None
measure_kept kept (Some attr) = Some (new_place kept attr)

abbrev pub lane_kept : List Bool → Lane → Lane
lane_kept kept lane = record { select = expr_kept kept lane.select; key = key_kept kept lane.key; measure = measure_kept kept lane.measure }

-- a shape of the attributes that are kept; its sizes stay
abbrev pub shape_kept : List Bool → ShapeValue → ShapeValue
shape_kept kept shape = record shape { schema = keep kept shape.schema; lanes = map (lane_kept kept) shape.lanes }

-- the question, of the new places; lanes keep their numbers
abbrev pub ask_kept : List Bool → Ask → Ask
ask_kept kept (asks.List expr) = asks.List (expr_kept kept expr)
ask_kept kept (asks.Find lane low high) = asks.Find lane low high
ask_kept kept (asks.Between lane low high) = asks.Between lane low high
ask_kept kept (asks.Measure lane low high) = asks.Measure lane low high
ask_kept kept (asks.Fired trigger) = asks.Fired trigger
ask_kept kept (asks.Top lane part n) = asks.Top lane part n
ask_kept kept (asks.Groups lane) = asks.Groups lane
ask_kept kept (asks.Total attr expr) = asks.Total (new_place kept attr) (expr_kept kept expr)
