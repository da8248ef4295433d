-- Parts of lists are copied to where C has room for them.
use Rattle.std.specs.Prelude.{◌≡◌, ◌⊎◌, ℕ, ◌-◌, ◌<◌, ◌≤◌, List, ◌++◌, length, min, take, drop}
use Rattle.cf_handles.specs.declared.code.Code.{Code}
use Rattle.cf_handles.specs.declared.code.Code.TheVariants as codes

-- the items from that place on were copied over what was there before, as far as there is room, and so many they are
pub record Copies {A : Type 0} (items : List A) (from : ℕ) (before after : List A) (count : ℕ) : Type 0 where
  pub count_is : count ≡ min (length items - from) (length before)
  pub after_is : after ≡ take count (drop from items) ++ drop count before

-- The words were put to the front, if there is room for them, and so many they are. Refused, all stays as it was.
abbrev pub Puts : List ℕ → List ℕ → List ℕ → ℕ → ℕ → Code → Type 0
Puts words before after count count' code =
    ((length words ≤ length before) × Copies words 0 before after count' × (count' ≡ length words) × (code ≡ codes.Done))
    ⊎ ((length before < length words) × (after ≡ before) × (count' ≡ count) × (code ≡ codes.Sizes))
