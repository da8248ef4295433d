-- Lists of books, and what a load or a link leaves of a pass.
use Rattle.std.proofs.Common.{◌≡◌, ℕ, ◌-◌, zero, suc, List, [], ◌∷◌, ◌++◌, take, drop, refl, ap}
use Rattle.cf_law.specs.Steps.{without}
use Rattle.cf_law.specs.Events.{tabulated}

pub table_none : {A : Type 0} (f : ℕ → A) → tabulated f 0 ≡ []
unfolding tabulated
table_none f = refl

pub table_more : {A : Type 0} (f : ℕ → A) (n : ℕ) → tabulated f (suc n) ≡ tabulated f n ++ f n ∷ []
unfolding tabulated
table_more f n = refl

pub but_is : {A : Type 0} (k : ℕ) (xs : List A) → without k xs ≡ take k xs ++ drop (suc k) xs
unfolding without
but_is zero [] = refl
but_is (suc k) [] = refl
but_is zero (x ∷ xs) = refl
but_is {A = A} (suc k) (x ∷ xs) = ap (λ (ys : List A). x ∷ ys) (but_is k xs)
