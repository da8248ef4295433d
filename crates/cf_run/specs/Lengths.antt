-- What is written of captures of any length, end to end.
use Rattle.std.specs.Prelude.{◌≡◌, ◌⊎◌, ℕ, suc, Bool, true, false, List, ◌∷◌, [], ◌++◌, codes, decimal, length, slice_get, slice_index_or, Some, None, Option}
use Rattle.std.specs.List.{flat_map, range_with_len}
use Rattle.cf_outside.specs.Files.{File}
use Rattle.cf_follow.specs.Followed.{truncated_line}
use Rattle.cf_intake.specs.Files.{HasLeft}
use Rattle.cf_intake.specs.Refusals.{line_at, line_of}
use Rattle.cf_intake.specs.Series.{HasCome}
use Rattle.cf_intake.specs.declared.refusal.Refusal.{Refusal}

-- whether more captures than one are named
abbrev pub are_several : List (List ℕ) → Bool
are_several [] = true
are_several (name ∷ []) = false
are_several (name ∷ other ∷ names) = true

-- the line of what refuses the capture behind so many others, which names its place where several are named
abbrev pub line_among : (several : Bool) → (place : ℕ) → Refusal → List ℕ
line_among true place why = line_at (suc place) why
line_among false place why = line_of why

-- `truncated: capture F record K`, where the capture behind so many others ends within that record; of one alone the line names no place
abbrev pub cut_line : (several : Bool) → (place : ℕ) → Option ℕ → List ℕ
cut_line true place (Some k) = codes "truncated: capture " ++ (decimal (suc place) ++ (codes " record " ++ (decimal k ++ 10 ∷ [])))
cut_line true place None = []
cut_line false place cut = truncated_line cut

-- the same of the capture at a place among all
abbrev pub cut_line_at : (several : Bool) → List (Option ℕ) → (place : ℕ) → List ℕ
cut_line_at several cuts place = cut_line several place (slice_index_or cuts place None)

-- of all, in their order
abbrev pub cut_lines : (several : Bool) → List (Option ℕ) → List ℕ
cut_lines several cuts = flat_map (cut_line_at several cuts) (range_with_len 0 (length cuts))

-- what is left: nothing, or what is behind the first bytes of one of the captures of these names
abbrev pub IsLeftOf : Option (List File) → (names : List (List ℕ)) → Option (List ℕ) → Type 0
IsLeftOf told names now =
    HasLeft told now (Some [])
    ⊎ ((place : ℕ) × (name : List ℕ) × (bytes : List ℕ) × (slice_get names place ≡ Some name) × HasCome told name bytes now)
