-- What the places of words keep.
use Rattle.std.specs.Prelude.{ℕ, ◌≡◌, ◌<◌, Bool}
use Rattle.cf_shape.specs.Lanes.{ShapeValue}
use Rattle.cf_shape.specs.Places.{WordName, Exists, place_of, sizes_of, word_total}

-- different words of a log have different places, within the table; `is_inner` says which nodes have children
pub record PlacesDiffer : Type 0 where
  pub differ : (shape : ShapeValue) (is_inner : ℕ → Bool) (v w : WordName) → Exists shape is_inner v → Exists shape is_inner w
      → place_of shape v ≡ place_of shape w → v ≡ w
  pub within : (shape : ShapeValue) (is_inner : ℕ → Bool) (w : WordName) → Exists shape is_inner w → place_of shape w < word_total (sizes_of shape)
