-- What the words of a ticket are for: attributes and tag, then the cells in the order of the lanes. After them stands the done word.
use Rattle.std.specs.Prelude.{◌≡◌, ℕ, ◌+◌, zero, suc, Bool, true, false, List, [], ◌∷◌, ◌++◌, take, slice_index_or, if◌then◌else◌}
use Rattle.std.specs.declared.option.Option.{Option}
use Rattle.std.specs.declared.option.Option.TheVariants.{Some, None}
use Rattle.cf_row.specs.Words.{word_count}
use Rattle.cf_shape.specs.declared.lane.Lane.{Lane}
use Rattle.cf_shape.specs.Lanes.{ShapeValue, lane_at}

-- word i of the attributes and tag, or word i of the cell of a lane
pub data Use : Type 0 where
  plain : ℕ → Use
  version : ℕ → ℕ → Use

-- something is measured: the attribute at some place, and not nothing (None)
abbrev pub has_measure : Option ℕ → Bool
has_measure None = false
has_measure (Some attr) = true

-- the lane of that number, from 0, measures something
abbrev pub is_measured : ShapeValue → ℕ → Bool
is_measured shape lane = has_measure (lane_at shape lane).measure

-- a lane's cell has one word, or three where it is measured
abbrev pub cell_words : Lane → ℕ
cell_words lane = if has_measure lane.measure then 3 else 1

-- the words of all cells
unfoldable pub cell_count : List Lane → ℕ
cell_count [] = 0
cell_count (lane ∷ lanes) = cell_words lane + cell_count lanes

-- the words before a lane's cell
abbrev pub cells_before : ShapeValue → ℕ → ℕ
cells_before shape lane = cell_count (take lane shape.lanes)

-- the words of a ticket
abbrev pub ticket_words : ShapeValue → ℕ
ticket_words shape = word_count shape.schema + 1 + cell_count shape.lanes + 1

-- a ticket of a log of this shape has n words
abbrev pub TakesWords : ShapeValue → ℕ → Type 0
TakesWords shape n = n ≡ ticket_words shape

-- the uses of n words of attributes and tag, from word k on
unfoldable pub plains : ℕ → ℕ → List Use
plains k zero = []
plains k (suc n) = plain k ∷ plains (suc k) n

-- the uses of n words of the cell of the lane of that number, from word k of the cell on
unfoldable pub versions : ℕ → ℕ → ℕ → List Use
versions lane k zero = []
versions lane k (suc n) = version lane k ∷ versions lane (suc k) n

-- the uses of the words of these lanes' cells, in order, where the first lane has the number k
unfoldable pub cells : ℕ → List Lane → List Use
cells k [] = []
cells k (lane ∷ lanes) = versions k 0 (cell_words lane) ++ cells (suc k) lanes

-- the uses of a ticket's words in their order
abbrev pub uses : ShapeValue → List Use
uses shape = plains 0 (word_count shape.schema + 1) ++ cells 0 shape.lanes

-- the use of word i of a ticket, from 0; for the done word, which has no use of its own, plain 0 stands
abbrev pub use_at : ShapeValue → ℕ → Use
use_at shape i = slice_index_or (uses shape) i (plain 0)
