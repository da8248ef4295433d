-- A segment: a log of one writer that takes rows until it has no place or lacks a node.
use Rattle.std.specs.Prelude.{◌≡◌, ◌⊎◌, ℕ, ◌*◌, ◌≤◌, Bool, true, false, List, [], ◌∷◌, ◌++◌, length}
use Rattle.cf_row.specs.Row.{RowValue}
use Rattle.cf_shape.specs.Lanes.{ShapeValue}
use Rattle.cf_plain.specs.Asks.{rows_in}
use Rattle.cf_alone.specs.Solos.{AreNeeded, SoloValue}

-- its shape, its rows, and whether it has refused one
pub record WindowSegmentValue : Type 0 where
  pub shape : ShapeValue
  pub rows : List RowValue
  pub is_spent : Bool

-- the shape with so many nodes
abbrev pub with_nodes : ShapeValue → ℕ → ShapeValue
with_nodes shape nodes = record shape { nodes = nodes }

-- how many nodes the paths of a row have at most: 15 in each lane, whose keys have at most 16 nibbles
abbrev pub most_nodes : ShapeValue → ℕ
most_nodes shape = length shape.lanes * 15

-- A log of that shape has so many nodes, or fewer, but as many as all rows for which it has places can need.
pub record HasEnough (log : ShapeValue) (nodes : ℕ) : Type 0 where
  pub fewer : log.nodes ≤ nodes
  pub enough : (log.nodes ≡ nodes) ⊎ (log.capacity * most_nodes log ≤ log.nodes)

-- The log's rows may need so many nodes, and it has enough of them. While it has refused no row, its used nodes are those that its
-- rows need.
pub record IsWindowSegment (solo : SoloValue) (nodes : ℕ) (is_spent : Bool) : Type 0 where
  pub needed : is_spent ≡ false → AreNeeded solo.shape (rows_in solo.entries) solo.used
  pub enough : HasEnough solo.shape nodes

-- a segment whose rows may need so many nodes
abbrev pub segment_value : SoloValue → ℕ → Bool → WindowSegmentValue
segment_value solo nodes is_spent = record { shape = with_nodes solo.shape nodes; rows = rows_in solo.entries; is_spent = is_spent }

-- rows, and one more where it was taken
abbrev pub with_row : List RowValue → RowValue → Bool → List RowValue
with_row rows row true = rows ++ row ∷ []
with_row rows row false = rows
