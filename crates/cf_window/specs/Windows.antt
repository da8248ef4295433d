-- The window: the last records of a stream, in segments of consecutive records, the oldest first.
use Rattle.std.specs.Prelude.{ℕ, ◌-◌, Bool, ◌&&◌, not, nat_lt, nat_le, List, [], ◌∷◌, ◌++◌, length, take, drop, fold, slice_index_or, if◌then◌else◌}
use Rattle.std.specs.List.{flat_map}
use Rattle.cf_row.specs.Row.{RowValue}
use Rattle.cf_shape.specs.Lanes.{ShapeValue}
use Rattle.cf_shape.specs.Nodes.{distinct, nodes_for}

-- a segment of these records has a place for one more, and no record of it lacks a node then
abbrev pub takes : ShapeValue → List RowValue → RowValue → Bool
takes shape rows row = nat_lt (length rows) shape.capacity && nat_le (distinct shape (rows ++ row ∷ [])) shape.nodes

-- the record's paths in all lanes have no more nodes than an empty segment has
abbrev pub is_small : ShapeValue → RowValue → Bool
is_small shape row = nat_le (length (nodes_for shape row)) shape.nodes

-- the records of the last segment, none where there is no segment
abbrev pub last_of : List (List RowValue) → List RowValue
last_of segments = slice_index_or segments (length segments - 1) []

-- there is a segment, and the last one takes the record
abbrev pub goes_in : ShapeValue → List (List RowValue) → RowValue → Bool
goes_in shape segments row = nat_lt 0 (length segments) && takes shape (last_of segments) row

-- no segment takes the record, neither the last one nor a new one
abbrev pub is_refused : ShapeValue → List (List RowValue) → RowValue → Bool
is_refused shape segments row = not (goes_in shape segments row) && not (is_small shape row)

-- the record behind those of the last segment
abbrev pub with_last : List (List RowValue) → RowValue → List (List RowValue)
with_last segments row = take (length segments - 1) segments ++ (last_of segments ++ row ∷ []) ∷ []

-- a segment has to be dropped before the record comes: the last one does not take it, and there are as many as there may be
abbrev pub drops : ShapeValue → ℕ → List (List RowValue) → RowValue → Bool
drops shape most segments row = not (goes_in shape segments row) && nat_le most (length segments)

-- the segments, without the oldest where one has to be dropped
abbrev pub kept_for : ShapeValue → ℕ → List (List RowValue) → RowValue → List (List RowValue)
kept_for shape most segments row = if drops shape most segments row then drop 1 segments else segments

-- the window after one record more: it goes into the last segment, or into a new one
abbrev pub after_row : ShapeValue → ℕ → List (List RowValue) → RowValue → List (List RowValue)
after_row shape most segments row =
    if goes_in shape segments row then with_last segments row else kept_for shape most segments row ++ (row ∷ []) ∷ []

-- the window after these records, which are all of the stream so far
abbrev pub window : ShapeValue → ℕ → List RowValue → List (List RowValue)
window shape most rows = fold (after_row shape most) [] rows

-- the records of all segments
abbrev pub rows_in_all : List (List RowValue) → List RowValue
rows_in_all segments = flat_map (λ rows. rows) segments
