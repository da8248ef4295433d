-- What is added up of the rows of which an expression holds.
use Rattle.std.specs.Prelude.{◌≡◌, ℕ, true, List, map, filter, slice_get}
use Rattle.cf_row.specs.declared.schema.Attr.{Attr}
use Rattle.cf_row.specs.declared.expr.Atom.{Atom}
use Rattle.cf_row.specs.Row.{RowValue}
use Rattle.cf_row.specs.Expr.{holds_of}
use Rattle.cf_row.specs.Times.{number_at}
use Rattle.cf_fold.specs.Quads.{QuadValue, quad_of}
use Rattle.cf_shape.specs.Lanes.{option_passes, is_narrow}

-- the attribute is there, and its numbers are below 2^32
abbrev pub IsNarrow : List Attr → ℕ → Type 0
IsNarrow attrs attr = option_passes is_narrow (slice_get attrs attr) ≡ true

-- the attribute's numbers in the rows of which the expression holds, in order
abbrev pub amounts : ℕ → List (List Atom) → List RowValue → List ℕ
amounts attr expr rows = map (λ row. number_at row attr) (filter (holds_of expr) rows)

-- their quad
abbrev pub total : ℕ → List (List Atom) → List RowValue → QuadValue
total attr expr rows = quad_of (amounts attr expr rows)
