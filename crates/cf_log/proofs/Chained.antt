-- One thing more is done.
use Rattle.std.proofs.Common.{◌≡◌, ◌∙◌, ◌<◌, ◌+◌, ℕ, List, [], ◌∷◌, ◌++◌, Some, length, slice_get, get_or, slice_set, take, drop, ap, refl, sym, subst, arith, zero, suc}
use Rattle.std.proofs.Math.Seq.{take-suc, take-suc-set}
use Rattle.std.proofs.lemmas.List.{drop-set-lt}
use Rattle.std.proofs.lemmas.Option.{slice_get_within, slice_get-get_or, get_or_from_slice_get}
use Rattle.cf_log.specs.Chains.{Chain}

chain_more : {T A B : Type 0} (Does : A → T → T → B → Type 0) (xs : List A) (m k n : T) (ys : List B) (a : A) (b : B) → Chain Does xs m k ys → Does a k n b
    → Chain Does (xs ++ a ∷ []) m n (ys ++ b ∷ [])
chain_more {T} {A} {B} Does [] m k n [] a b is did = (n, subst (λ (x : T). Does a x n b) is did, refl)
chain_more Does [] m k n (y ∷ ys) a b is did = absurd is
chain_more Does (z ∷ xs) m k n [] a b is did = absurd is
chain_more Does (z ∷ xs) m k n (y ∷ ys) a b is did = (is.0, is.1, chain_more Does xs is.0 k n ys a b is.2 did)

next : (k : ℕ) → suc k ≡ k + 1
next k = omega arith

pub took_more : {A : Type 0} (xs : List A) (k : ℕ) (a : A) → slice_get xs k ≡ Some a → take (k + 1) xs ≡ take k xs ++ a ∷ []
took_more {A} xs k a at =
    subst (λ (i : ℕ). take i xs ≡ take k xs ++ a ∷ []) (next k)
    (take-suc xs k a (slice_get_within xs k a at) ∙ ap (λ (y : A). take k xs ++ y ∷ []) (get_or_from_slice_get xs k a a at))

pub stored_more : {A : Type 0} (ys : List A) (k : ℕ) (b : A) → k < length ys → take (k + 1) (slice_set ys k b) ≡ take k ys ++ b ∷ []
stored_more ys k b lt = subst (λ (i : ℕ). take i (slice_set ys k b) ≡ take k ys ++ b ∷ []) (next k) (take-suc-set ys k b lt)

-- the next of the things is done, and its answer is stored behind those before
pub goes_more : {T A B : Type 0} (Does : A → T → T → B → Type 0) (xs : List A) (ys : List B) (m n o : T) (k : ℕ) (a : A) (b : B) → slice_get xs k ≡ Some a
    → k < length ys → Chain Does (take k xs) m n (take k ys) → Does a n o b
    → Chain Does (take (k + 1) xs) m o (take (k + 1) (slice_set ys k b))
goes_more {T} {A} {B} Does xs ys m n o k a b at lt chain did =
    subst (λ (zs : List A). Chain Does zs m o (take (k + 1) (slice_set ys k b))) (sym (took_more xs k a at))
    (subst (λ (zs : List B). Chain Does (take k xs ++ a ∷ []) m o zs) (sym (stored_more ys k b lt))
    (chain_more Does (take k xs) m n o (take k ys) a b chain did))

dropped : {A : Type 0} (k : ℕ) (xs : List A) → drop (suc k) xs ≡ drop 1 (drop k xs)
dropped zero xs = refl
dropped (suc k) [] = refl
dropped (suc k) (x ∷ xs) = dropped k xs

drop_one : {A : Type 0} (k : ℕ) (xs : List A) → drop (k + 1) xs ≡ drop 1 (drop k xs)
drop_one k xs = subst (λ (i : ℕ). drop i xs ≡ drop 1 (drop k xs)) (next k) (dropped k xs)

-- the answers behind it are those that stood there
pub rest_more : {B : Type 0} (ys before : List B) (k : ℕ) (b : B) → drop k ys ≡ drop k before → drop (k + 1) (slice_set ys k b) ≡ drop (k + 1) before
rest_more {B} ys before k b is =
    drop-set-lt (k + 1) ys k b (omega arith) ∙ (drop_one k ys ∙ (ap (λ (zs : List B). drop 1 zs) is ∙ sym (drop_one k before)))

-- an item by its place
pub found_at : {A : Type 0} (xs : List A) (k : ℕ) (a : A) → k < length xs → a ≡ get_or xs k a → slice_get xs k ≡ Some a
found_at xs k a lt is = slice_get-get_or xs k a lt ∙ sym (ap Some is)
