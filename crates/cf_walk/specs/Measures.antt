-- What lanes measure of the entries that a walk finds, and the groups of their keys.
use Rattle.std.specs.Prelude.{ℕ, ◌≡◌, ◌≤◌, ◌+◌, ◌-◌, ◌==◌, Bool, not, List, ◌++◌, map, filter}
use Rattle.std.specs.List.{range_with_len}
use Rattle.cf_row.specs.Row.{RowValue}
use Rattle.cf_row.specs.declared.row.Entry.{Entry}
use Rattle.cf_fold.specs.Quads.{QuadValue, quad_of}
use Rattle.cf_shape.specs.Lanes.{ShapeValue, measure_of}
use Rattle.cf_plain.specs.Asks.{rows_in, row_at}
use Rattle.cf_plain.specs.Groups.{group_of, as_group}
use Rattle.cf_plain.specs.declared.answer.Group.{Group}
use Rattle.cf_walk.specs.Walks.{range_places}

-- what the lane measures of the entries at these places, of those that were seen
abbrev pub amounts_at : ShapeValue → ℕ → List Entry → List ℕ → List ℕ
amounts_at shape lane seen places = map (λ place. measure_of shape lane (row_at (rows_in seen) place)) places

-- all keys from the first up to the last were gone over, and that is the quad of what the lane measures of their entries
pub record HasMeasured (shape : ShapeValue) (lane first high : ℕ) (seen : List Entry) (found : QuadValue) (last : ℕ) : Type 0 where
  pub from : first ≤ last
  pub upto : last ≤ high
  pub quad : found ≡ quad_of (amounts_at shape lane seen (range_places shape lane first seen (last - first + 1)))

-- whether a selected row has the key
abbrev pub is_grouped : ShapeValue → ℕ → List RowValue → ℕ → Bool
is_grouped shape lane rows k = not ((group_of shape lane rows k).1.count == 0)

-- the groups of n keys from the lowest on
abbrev pub groups_from : ShapeValue → ℕ → List RowValue → ℕ → ℕ → List (ℕ × QuadValue)
groups_from shape lane rows low n = map (group_of shape lane rows) (filter (is_grouped shape lane rows) (range_with_len low n))

-- all keys from the first up to the last were gone over, and their groups were found
pub record HasGrouped (shape : ShapeValue) (lane first high : ℕ) (rows : List RowValue) (before after : List Group) (last : ℕ) : Type 0 where
  pub from : first ≤ last
  pub upto : last ≤ high
  pub found : after ≡ before ++ map as_group (groups_from shape lane rows first (last - first + 1))
