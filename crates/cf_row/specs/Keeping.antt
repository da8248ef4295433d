-- Some items of a list are kept: a mark for each place says whether its item is.
use Rattle.std.specs.Prelude.{Bool, List, [], ◌∷◌, if◌then◌else◌}

-- the items that are kept, in order; an item without a mark is not
abbrev pub keep : {X : Type 0} → List Bool → List X → List X
keep [] xs = []
keep (mark ∷ marks) [] = []
keep (mark ∷ marks) (x ∷ xs) = if mark then x ∷ keep marks xs else keep marks xs
