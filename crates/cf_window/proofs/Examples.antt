-- Rounds of two records, by reads of both at once and of one each.
use Rattle.std.proofs.Common.{◌≡◌, ℕ, Bool, true, false, [], ◌∷◌, refl}
use Rattle.cf_row.specs.Row.{RowValue}
use Rattle.cf_shape.specs.Lanes.{ShapeValue}
use Rattle.cf_window.specs.Rounds.{Span, rounds_of}

bare : ℕ → ShapeValue
bare capacity = record { schema = []; lanes = []; capacity = capacity; writers = 1; nodes = 0; width = 1 }

row : ℕ → RowValue
row num = record { num = num; values = [] }

span : ℕ → ℕ → Span
span from to = record { from = from; to = to }

unforced : ℕ → Bool
unforced number = false

-- in one read, with room for both
one_read : rounds_of (bare 2) 4 unforced ((row 0 ∷ row 1 ∷ []) ∷ []) ≡ span 0 2 ∷ span 0 2 ∷ []
unfolding bare row span unforced
one_read = refl

-- in two reads
two_reads : rounds_of (bare 2) 4 unforced ((row 0 ∷ []) ∷ [] ∷ (row 1 ∷ []) ∷ []) ≡ span 0 1 ∷ span 0 2 ∷ span 0 2 ∷ []
unfolding bare row span unforced
two_reads = refl

-- in one read, where the first has to be dropped for the second
dropping : rounds_of (bare 1) 1 unforced ((row 0 ∷ row 1 ∷ []) ∷ []) ≡ span 0 1 ∷ span 1 2 ∷ span 1 2 ∷ []
unfolding bare row span unforced
dropping = refl

-- where one is forced before the second
forcing : rounds_of (bare 2) 4 (λ number. true) ((row 0 ∷ row 1 ∷ []) ∷ []) ≡ span 0 0 ∷ span 0 1 ∷ span 0 2 ∷ span 0 2 ∷ []
unfolding bare row span
forcing = refl
