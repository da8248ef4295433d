-- Numbers in order.
use Rattle.std.specs.Prelude.{ℕ, nat_le, List, [], ◌∷◌, fold, if◌then◌else◌}

-- a number put before the first that isn't below it
abbrev pub put_into : List ℕ → ℕ → List ℕ
put_into [] n = n ∷ []
put_into (m ∷ ms) n = if nat_le n m then n ∷ m ∷ ms else m ∷ put_into ms n

-- the numbers of a list, ascending, each as often as it stands there
abbrev pub sort : List ℕ → List ℕ
sort ns = fold put_into [] ns
