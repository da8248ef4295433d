-- Where all is kept that a shape and a question name, what is left means the same.
use Rattle.std.specs.Prelude.{◌≡◌, ℕ, Bool, true, List, map, All}
use Rattle.std.specs.List.{list_all}
use Rattle.cf_row.specs.Row.{Fits, RowValue}
use Rattle.cf_row.specs.Expr.{holds_of}
use Rattle.cf_row.specs.declared.expr.Atom.{Atom}
use Rattle.cf_fold.specs.declared.trigger.Trigger.{Trigger}
use Rattle.cf_shape.specs.Lanes.{ShapeValue, IsShape, selected_by, key_of, by_of, measure_of}
use Rattle.cf_shape.specs.Nodes.{distinct}
use Rattle.cf_plain.specs.Asks.{Suits, SuitsTrigger, eval_rows, marks_over}
use Rattle.cf_plain.specs.Segments.{finding_in}
use Rattle.cf_plain.specs.declared.ask.Ask.{Ask}
use Rattle.cf_project.specs.Named.{KeepsAsks, KeepsShape, keeps_ask, keeps_expr, named_in}
use Rattle.cf_project.specs.Projected.{ask_kept, expr_kept, row_kept, shape_kept}

-- The attributes that a shape and its questions name are all that these need.
abbrev pub NamedAreKept : Type 0
NamedAreKept = (shape : ShapeValue) (questions : List Ask) → IsShape shape → All (Suits shape) questions
    → KeepsShape (named_in shape questions) shape × KeepsAsks (named_in shape questions) questions

-- What is left of a shape is one.
abbrev pub KeptShapesAreShapes : Type 0
KeptShapesAreShapes = (kept : List Bool) (shape : ShapeValue) → KeepsShape kept shape → IsShape shape → IsShape (shape_kept kept shape)

-- What is left of a row that fits, fits.
abbrev pub KeptRowsFit : Type 0
KeptRowsFit = (kept : List Bool) (shape : ShapeValue) (row : RowValue) → Fits shape.schema row → Fits (shape_kept kept shape).schema (row_kept kept row)

-- Where all is kept, nothing changes.
abbrev pub NothingIsLost : Type 0
NothingIsLost = (kept : List Bool) (shape : ShapeValue) → KeepsShape kept shape → list_all (λ mark. mark) kept ≡ true
    → (shape_kept kept shape ≡ shape) × ((row : RowValue) → Fits shape.schema row → row_kept kept row ≡ row)

-- An expression holds of the same rows.
abbrev pub ExpressionsHoldAlike : Type 0
ExpressionsHoldAlike = (kept : List Bool) (expr : List (List Atom)) (row : RowValue) → keeps_expr kept expr ≡ true
    → holds_of (expr_kept kept expr) (row_kept kept row) ≡ holds_of expr row

-- A lane selects the same rows, by the same keys, and measures the same of them.
pub record IsLaneAlike (kept : List Bool) (shape : ShapeValue) (lane : ℕ) (row : RowValue) : Type 0 where
  pub selects : selected_by (shape_kept kept shape) lane (row_kept kept row) ≡ selected_by shape lane row
  pub key : key_of (shape_kept kept shape) lane (row_kept kept row) ≡ key_of shape lane row
  pub by : by_of (shape_kept kept shape) lane (row_kept kept row) ≡ by_of shape lane row
  pub measure : measure_of (shape_kept kept shape) lane (row_kept kept row) ≡ measure_of shape lane row

abbrev pub LanesAreAlike : Type 0
LanesAreAlike = (kept : List Bool) (shape : ShapeValue) (lane : ℕ) (row : RowValue) → KeepsShape kept shape → IsShape shape → IsLaneAlike kept shape lane row

-- Rows need as many nodes.
abbrev pub NodesAreAlike : Type 0
NodesAreAlike = (kept : List Bool) (shape : ShapeValue) (rows : List RowValue) → KeepsShape kept shape → IsShape shape
    → distinct (shape_kept kept shape) (map (row_kept kept) rows) ≡ distinct shape rows

-- A question can be asked, finds the same and has the same answer.
pub record IsAskAlike (kept : List Bool) (shape : ShapeValue) (ask : Ask) (rows : List RowValue) : Type 0 where
  pub suits : Suits shape ask → Suits (shape_kept kept shape) (ask_kept kept ask)
  pub finds : finding_in (shape_kept kept shape) (ask_kept kept ask) (map (row_kept kept) rows) ≡ finding_in shape ask rows
  pub answers : eval_rows (shape_kept kept shape) (ask_kept kept ask) (map (row_kept kept) rows) ≡ eval_rows shape ask rows

abbrev pub AsksAreAlike : Type 0
AsksAreAlike = (kept : List Bool) (shape : ShapeValue) (ask : Ask) (rows : List RowValue) → KeepsShape kept shape → IsShape shape
    → keeps_ask kept ask ≡ true → IsAskAlike kept shape ask rows

-- A trigger can watch, and makes the same marks.
abbrev pub TriggersAreAlike : Type 0
TriggersAreAlike = (kept : List Bool) (shape : ShapeValue) (trigger : Trigger) (rows : List RowValue) → KeepsShape kept shape → IsShape shape
    → (SuitsTrigger shape trigger → SuitsTrigger (shape_kept kept shape) trigger)
    × (marks_over (shape_kept kept shape) trigger (map (row_kept kept) rows) ≡ marks_over shape trigger rows)
