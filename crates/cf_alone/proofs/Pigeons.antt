-- Lists in which nothing stands twice.
use Rattle.std.proofs.Common.{◌≡◌, ◌⊎◌, ℕ, ◌*◌, ◌≤◌, zero, suc, inl, inr, List, [], ◌∷◌, ◌++◌, length, length-append, map, Some, slice_get, refl, ap, sym, ◌∙◌, arith}
use Rattle.std.specs.List.{flat_map}
use Rattle.std.proofs.Math.Nat.{suc-mul}
use Rattle.cf_row.proofs.Lists.{Has}

-- nothing stands at two places
abbrev pub AreApart : {A : Type 0} → List A → Type 0
AreApart {A = A} xs = (i j : ℕ) (x : A) → slice_get xs i ≡ Some x → slice_get xs j ≡ Some x → i ≡ j

-- the list without what stands at that place
without : {A : Type 0} → ℕ → List A → List A
without k [] = []
without zero (y ∷ ys) = ys
without (suc k) (y ∷ ys) = y ∷ without k ys

without_shorter : {A : Type 0} (k : ℕ) (ys : List A) (x : A) → slice_get ys k ≡ Some x → suc (length (without k ys)) ≡ length ys
unfolding without
without_shorter k [] x at = absurd (cc at)
without_shorter zero (y ∷ ys) x at = refl
without_shorter (suc k) (y ∷ ys) x at = ap suc (without_shorter k ys x at)

still_there : {A : Type 0} (k i : ℕ) (ys : List A) (x : A) → slice_get ys i ≡ Some x → (i ≡ k → ⊥) → Has (without k ys) x
unfolding without
still_there k i [] x at other = absurd (cc at)
still_there zero zero (y ∷ ys) x at other = absurd (other refl)
still_there zero (suc i) (y ∷ ys) x at other = (i, at)
still_there (suc k) zero (y ∷ ys) x at other = (0, at)
still_there (suc k) (suc i) (y ∷ ys) x at other = (let r = still_there k i ys x at (λ e. other (ap suc e)) in (suc r.0, r.1))

-- a list whose items all stand in another has no more of them, if none stands twice
pub no_more : {A : Type 0} (xs ys : List A) → AreApart xs → ((i : ℕ) (x : A) → slice_get xs i ≡ Some x → Has ys x) → length xs ≤ length ys
no_more [] ys apart there = omega arith
no_more (x ∷ xs) ys apart there =
    let first = there 0 x refl in
    let shorter = without_shorter first.0 ys x first.1 in
    let rest = no_more xs (without first.0 ys) (λ i j y a b. (let e = apart (suc i) (suc j) y a b in omega (arith, e)))
    (λ i y at. (let h = there (suc i) y at in still_there first.0 h.0 ys y h.1 (λ same. apart_there i y at h.0 h.1 same))) in
    omega (arith, shorter, rest)
  where
    apart_there : (i : ℕ) (y : _) → slice_get xs i ≡ Some y → (h : ℕ) → slice_get ys h ≡ Some y → h ≡ (there 0 x refl).0 → ⊥
    apart_there i y at h there_y same =
        let f : Some y ≡ Some x = sym there_y ∙ (ap (slice_get ys) same ∙ (there 0 x refl).1) in
        let e : y ≡ x = cc f in
        let z = apart (suc i) 0 y at (ap (λ u. Some u) (sym e)) in
        absurd (omega (arith, z))

pub in_either : {A : Type 0} (xs ys : List A) (k : ℕ) (x : A) → slice_get (xs ++ ys) k ≡ Some x → Has xs x ⊎ Has ys x
in_either [] ys k x h = inr (k, h)
in_either (y ∷ xs) ys zero x h = inl (0, h)
in_either (y ∷ xs) ys (suc k) x h = elim (in_either xs ys k x h) [
  | inl l ↦ inl (suc l.0, l.1)
  | inr r ↦ inr r
]

pub from_flat : {X A : Type 0} (f : X → List A) (xs : List X) (k : ℕ) (y : A) → slice_get (flat_map f xs) k ≡ Some y → (i : ℕ) × (x : X)
    × (slice_get xs i ≡ Some x) × Has (f x) y
from_flat f [] k y h = absurd (cc h)
from_flat f (z ∷ xs) k y h = elim (in_either (f z) (flat_map f xs) k y h) [
  | inl l ↦ (0, z, refl, l)
  | inr r ↦ (let t = from_flat f xs r.0 y r.1 in (suc t.0, t.1, t.2, t.3))
]

-- parts of no more than n items
pub flat_most : {X A : Type 0} (f : X → List A) (n : ℕ) (xs : List X) → ((i : ℕ) (x : X) → slice_get xs i ≡ Some x → length (f x) ≤ n)
    → length (flat_map f xs) ≤ length xs * n
flat_most f n [] few = omega arith
flat_most f n (x ∷ xs) few =
    (let one = few 0 x refl in let rest = flat_most f n xs (λ i y at. few (suc i) y at) in let e = length-append (f x) (flat_map f xs) in
    let g = suc-mul (length xs) n in omega (arith, one, rest, e, g))

pub from_map : {X A : Type 0} (f : X → A) (xs : List X) (k : ℕ) (y : A) → slice_get (map f xs) k ≡ Some y → (x : X) × (slice_get xs k ≡ Some x) × (f x ≡ y)
from_map f [] k y h = absurd (cc h)
from_map f (x ∷ xs) zero y h = (x, refl, cc h)
from_map f (x ∷ xs) (suc k) y h = from_map f xs k y h
