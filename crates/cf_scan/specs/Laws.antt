-- What a scan finds is what its question means.
use Rattle.std.specs.Prelude.{◌≡◌, ℕ, List}
use Rattle.cf_row.specs.declared.row.Entry.{Entry}
use Rattle.cf_row.specs.declared.expr.Atom.{Atom}
use Rattle.cf_row.specs.Expr.{holds_of}
use Rattle.cf_shape.specs.Lanes.{ShapeValue}
use Rattle.cf_plain.specs.Asks.{rows_in, places, eval}
use Rattle.cf_plain.specs.Totals.{total}
use Rattle.cf_plain.specs.declared.ask.Ask.TheVariants as asks
use Rattle.cf_plain.specs.declared.answer.Body.TheVariants as bodies

-- What the list question means on entries, by any shape, which is what `scan` finds.
abbrev pub ScansAreLists : Type 0
ScansAreLists = (shape : ShapeValue) (expr : List (List Atom)) (entries : List Entry)
    → eval shape (asks.List expr) entries ≡ bodies.Places (places (holds_of expr) (rows_in entries))

-- What the question for a total means on entries, by any shape, which is what `scan_total` finds.
abbrev pub ScansAreTotals : Type 0
ScansAreTotals = (shape : ShapeValue) (attr : ℕ) (expr : List (List Atom)) (entries : List Entry)
    → eval shape (asks.Total attr expr) entries ≡ bodies.Total (total attr expr (rows_in entries))
