-- Two lists, one beside the other.
use Rattle.std.proofs.Common.{◌≡◌, ℕ, zero, suc, ◌<◌, List, [], ◌∷◌, ◌++◌, length, get_or, Some, slice_get, refl, ap, subst, arith}
use Rattle.std.specs.List.{AllZip}

-- what stands beside an element of the first list
pub zip_at : {A B : Type 0} (R : A → B → Type 0) (xs : List A) (ys : List B) (k : ℕ) (x : A) → AllZip R xs ys → slice_get xs k ≡ Some x → (y : B)
    × (slice_get ys k ≡ Some y) × R x y
zip_at R [] ys k x all at = absurd (cc at)
zip_at R (a ∷ xs) [] k x all at = absurd all
zip_at R (a ∷ xs) (b ∷ ys) zero x all at = (let e : a ≡ x = cc at in (b, refl, subst (λ c. R c b) e all.0))
zip_at R (a ∷ xs) (b ∷ ys) (suc k) x all at = zip_at R xs ys k x all.1 at

-- what stands beside an element of the second list
pub zip_back : {A B : Type 0} (R : A → B → Type 0) (xs : List A) (ys : List B) (k : ℕ) (y : B) → AllZip R xs ys → slice_get ys k ≡ Some y → (x : A)
    × (slice_get xs k ≡ Some x) × R x y
zip_back R [] [] k y all at = absurd (cc at)
zip_back R [] (b ∷ ys) k y all at = absurd all
zip_back R (a ∷ xs) [] k y all at = absurd all
zip_back R (a ∷ xs) (b ∷ ys) zero y all at = (let e : b ≡ y = cc at in (a, refl, subst (λ c. R a c) e all.0))
zip_back R (a ∷ xs) (b ∷ ys) (suc k) y all at = zip_back R xs ys k y all.1 at

-- both lists are as long
pub zip_long : {A B : Type 0} (R : A → B → Type 0) (xs : List A) (ys : List B) → AllZip R xs ys → length xs ≡ length ys
zip_long R [] [] all = refl
zip_long R [] (b ∷ ys) all = absurd all
zip_long R (a ∷ xs) [] all = absurd all
zip_long R (a ∷ xs) (b ∷ ys) all = ap suc (zip_long R xs ys all.1)

-- what holds of the halves of two lists holds of the lists
pub zip_append : {A B : Type 0} (R : A → B → Type 0) (xs more : List A) (ys others : List B) → AllZip R xs ys → AllZip R more others
    → AllZip R (xs ++ more) (ys ++ others)
zip_append R [] more [] others first second = second
zip_append R [] more (y ∷ ys) others first second = absurd first
zip_append R (x ∷ xs) more [] others first second = absurd first
zip_append R (x ∷ xs) more (y ∷ ys) others first second = (first.0, zip_append R xs more ys others first.1 second)

-- what stands at one place of both
pub zip_get : {A B : Type 0} (R : A → B → Type 0) (xs : List A) (ys : List B) (k : ℕ) (d : A) (e : B) → AllZip R xs ys → k < length ys
    → R (get_or xs k d) (get_or ys k e)
zip_get R [] [] k d e all lt = absurd (omega (arith, lt))
zip_get R [] (y ∷ ys) k d e all lt = absurd all
zip_get R (x ∷ xs) [] k d e all lt = absurd all
zip_get R (x ∷ xs) (y ∷ ys) zero d e all lt = all.0
zip_get R (x ∷ xs) (y ∷ ys) (suc k) d e all lt = zip_get R xs ys k d e all.1 (omega (arith, lt))
