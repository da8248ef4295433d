-- What comes of appending rows.
use Rattle.std.specs.Prelude.{ℕ, List, Option, Ok, Err}
use Rattle.cf_row.specs.Row.{RowValue}
use Rattle.cf_shape.specs.Lanes.{ShapeValue}
use Rattle.cf_table.specs.Values.{PassValue}
use Rattle.cf_append.specs.Appends.{HasAppended}
use Rattle.cf_append.specs.declared.appends.AppendFault.{AppendFault}
use Rattle.cf_log.specs.Chains.{AreDoneUpTo}

-- The rows were appended in order, up to one that was refused, and their offsets stand at the front of the list.
abbrev pub AppendsAll : ShapeValue → List RowValue → PassValue → PassValue → List ℕ → List ℕ → ℕ → Option AppendFault → Type 0
AppendsAll shape = AreDoneUpTo (λ row m n o. HasAppended shape row m n (Ok o)) (λ row m n e. HasAppended shape row m n (Err e))
