-- What questions found.
use Rattle.std.specs.Prelude.{ℕ, List, [], ◌∷◌, map}
use Rattle.cf_row.specs.Row.{RowValue}
use Rattle.cf_shape.specs.Lanes.{ShapeValue}
use Rattle.cf_plain.specs.Segments.{body_of, finding_in, joined}
use Rattle.cf_plain.specs.declared.answer.Body.{Body}
use Rattle.cf_plain.specs.declared.ask.Ask.{Ask}
use Rattle.cf_plain.specs.declared.finding.Finding.{Finding}

-- what each question finds in some rows
abbrev pub found_in : ShapeValue → List Ask → List RowValue → List Finding
found_in shape asks rows = map (λ ask. finding_in shape ask rows) asks

-- what each question found in n rows, and what it found in those behind them
abbrev pub joined_each : ℕ → List Finding → List Finding → List Finding
joined_each n [] more = []
joined_each n (finding ∷ found) [] = []
joined_each n (finding ∷ found) (other ∷ more) = joined n finding other ∷ joined_each n found more

-- the answer of each question that found one of these
abbrev pub body_of_each : List Ask → List Finding → List Body
body_of_each [] found = []
body_of_each (ask ∷ asks) [] = []
body_of_each (ask ∷ asks) (finding ∷ found) = body_of ask finding ∷ body_of_each asks found
