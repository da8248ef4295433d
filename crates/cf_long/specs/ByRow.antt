-- What was found in a log, told of its rows in the order in which they came. The rows are numbered one by one.
use Rattle.std.specs.Prelude.{◌≡◌, ℕ, ◌+◌, ◌-◌, ◌<◌, List, length, map, slice_index_or, All}
use Rattle.cf_row.specs.Row.{RowValue}
use Rattle.cf_fold.specs.Sort.{sort}
use Rattle.cf_plain.specs.Asks.{row_at}
use Rattle.cf_plain.specs.declared.finding.Finding.{Finding}
use Rattle.cf_plain.specs.declared.finding.Finding.TheVariants as findings

-- the rows are numbered one by one from this number on
abbrev pub AreNumbered : ℕ → List RowValue → Type 0
AreNumbered first rows = (place : ℕ) → place < length rows → (row_at rows place).num ≡ first + place

-- how far the numbers at some places are behind the first one, ascending
abbrev pub places_by_row : ℕ → List ℕ → List ℕ → List ℕ
places_by_row first nums places = sort (map (λ place. slice_index_or nums place 0 - first) places)

-- what was found, with the places of the log's entries, which have these numbers, as places of the rows
abbrev pub by_row : ℕ → List ℕ → Finding → Finding
by_row first nums (findings.Places places) = findings.Places (places_by_row first nums places)
by_row first nums (findings.Total quad) = findings.Total quad
by_row first nums (findings.Groups groups) = findings.Groups groups

-- the places that were found are those of so many entries
abbrev pub IsFoundWithin : ℕ → Finding → Type 0
IsFoundWithin count (findings.Places places) = All (λ place. place < count) places
IsFoundWithin count (findings.Total quad) = Unit {0}
IsFoundWithin count (findings.Groups groups) = Unit {0}
