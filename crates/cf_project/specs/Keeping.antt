-- Where the items that are kept of a list stand (cf_row, specs/Keeping).
use Rattle.std.specs.Prelude.{ℕ, zero, suc, Bool, false, List, [], ◌∷◌, slice_index_or, if◌then◌else◌}
pub use Rattle.cf_row.specs.Keeping.{keep}

-- the new place of a kept item: as many kept ones are before it
abbrev pub new_place : List Bool → ℕ → ℕ
new_place [] place = 0
new_place (mark ∷ marks) zero = 0
new_place (mark ∷ marks) (suc place) = if mark then suc (new_place marks place) else new_place marks place

-- the item at a place is kept
abbrev pub is_kept : List Bool → ℕ → Bool
is_kept marks place = slice_index_or marks place false
