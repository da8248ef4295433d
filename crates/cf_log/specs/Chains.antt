-- Things that are done one after the other, as far as it goes.
use Rattle.std.specs.Prelude.{◌≡◌, ℕ, ◌≤◌, List, [], ◌∷◌, length, take, drop, slice_get, Option, Some, None}

-- from m to n all of them are done in order, with these answers
abbrev pub Chain : {T A B : Type 0} → (A → T → T → B → Type 0) → List A → T → T → List B → Type 0
Chain Does [] m n [] = n ≡ m
Chain Does [] m n (b ∷ ys) = ⊥
Chain Does (a ∷ xs) m n [] = ⊥
Chain {T} Does (a ∷ xs) m n (b ∷ ys) = (k : T) × Does a m k b × Chain Does xs k n ys

-- the next of them, if there is one to go on with
abbrev pub Refuses : {T A E : Type 0} → (A → T → T → E → Type 0) → List A → ℕ → T → T → Option E → Type 0
Refuses Refused xs done k n None = (n ≡ k) × (done ≡ length xs)
Refuses {T} {A} Refused xs done k n (Some e) = (a : A) × (slice_get xs done ≡ Some a) × Refused a k n e

-- So many of them were done, in order, with answers that stand at the front of a list in place of what was there; and then the next one
-- was refused, or there was none.
pub record AreDoneUpTo {T A B E : Type 0} (Does : A → T → T → B → Type 0) (Refused : A → T → T → E → Type 0) (xs : List A) (m n : T)
    (before after : List B) (done : ℕ) (stop : Option E) : Type 0 where
  pub last : T
  pub within : done ≤ length xs
  pub chain : Chain Does (take done xs) m last (take done after)
  pub rest : drop done after ≡ drop done before
  pub long : length after ≡ length before
  pub next : Refuses Refused xs done last n stop
