-- Lists: what stands at which place, and what joins, fronts and ranges have.
use Rattle.std.proofs.Common.{◌≡◌, ℕ, ◌+◌, ◌-◌, ◌<◌, ◌≤◌, zero, suc, List, [], ◌∷◌, ◌++◌, length, take, map, Some, slice_get, refl, ap, sym, subst, ◌∙◌, arith}
use Rattle.std.specs.List.{flat_map, range_with_len}
use Rattle.std.proofs.Math.Seq.{take-append-add}

-- the list has the item somewhere
abbrev pub Has : {A : Type 0} → List A → A → Type 0
Has xs x = (k : ℕ) × (slice_get xs k ≡ Some x)

pub has_left : {A : Type 0} (xs ys : List A) (k : ℕ) (x : A) → slice_get xs k ≡ Some x → slice_get (xs ++ ys) k ≡ Some x
has_left [] ys k x h = absurd (cc h)
has_left (y ∷ xs) ys zero x h = h
has_left (y ∷ xs) ys (suc k) x h = has_left xs ys k x h

pub has_right : {A : Type 0} (xs ys : List A) (x : A) → Has ys x → Has (xs ++ ys) x
has_right [] ys x h = h
has_right (y ∷ xs) ys x h = (let r = has_right xs ys x h in (suc r.0, r.1))

pub has_flat : {X A : Type 0} (f : X → List A) (xs : List X) (i : ℕ) (x : X) (y : A) → slice_get xs i ≡ Some x → Has (f x) y → Has (flat_map f xs) y
has_flat f [] i x y at h = absurd (cc at)
has_flat {X = X} {A = A} f (z ∷ xs) zero x y at h =
    (let same : z ≡ x = cc at in let there : Has (f z) y = subst (λ (u : X). Has (f u) y) (sym same) h in
    (there.0, has_left (f z) (flat_map f xs) there.0 y there.1))
has_flat f (z ∷ xs) (suc i) x y at h = has_right (f z) (flat_map f xs) y (has_flat f xs i x y at h)

pub has_map : {X A : Type 0} (f : X → A) (xs : List X) (k : ℕ) (x : X) → slice_get xs k ≡ Some x → slice_get (map f xs) k ≡ Some (f x)
has_map f [] k x h = absurd (cc h)
has_map {A = A} f (y ∷ xs) zero x h = (let same : y ≡ x = cc h in ap (λ u. Some (f u)) same)
has_map f (y ∷ xs) (suc k) x h = has_map f xs k x h

pub has_range : (a n k : ℕ) → k < n → slice_get (range_with_len a n) k ≡ Some (a + k)
has_range a zero k lt = absurd (omega (arith, lt))
has_range a (suc n) zero lt = ap (λ (j : ℕ). Some j) (let e : a ≡ a + 0 = omega arith in e)
has_range a (suc n) (suc k) lt = has_range (a + 1) n k (omega (arith, lt)) ∙ ap (λ (j : ℕ). Some j) (let e : a + 1 + k ≡ a + suc k = omega arith in e)

pub get_back : {A : Type 0} (xs ys : List A) (i : ℕ) (x : A) → slice_get ys i ≡ Some x → slice_get (xs ++ ys) (length xs + i) ≡ Some x
get_back [] ys i x h = ap (slice_get ys) (let e : 0 + i ≡ i = omega arith in e) ∙ h
get_back (y ∷ xs) ys i x h = ap (slice_get (y ∷ (xs ++ ys))) (let e : suc (length xs) + i ≡ suc (length xs + i) = omega arith in e) ∙ get_back xs ys i x h

pub get_push_same : {A : Type 0} (xs : List A) (x : A) → slice_get (xs ++ x ∷ []) (length xs) ≡ Some x
get_push_same [] x = refl
get_push_same (y ∷ xs) x = get_push_same xs x

pub get_push_other : {A : Type 0} (xs : List A) (x : A) (k : ℕ) → (k ≡ length xs → ⊥) → slice_get (xs ++ x ∷ []) k ≡ slice_get xs k
get_push_other [] x zero ne = absurd (ne refl)
get_push_other [] x (suc k) ne = refl
get_push_other (y ∷ xs) x zero ne = refl
get_push_other (y ∷ xs) x (suc k) ne = get_push_other xs x k (λ e. ne (ap suc e))

pub take_past : (n : ℕ) (file more : List ℕ) → length file ≤ n → take n (file ++ more) ≡ file ++ take (n - length file) more
take_past n file more h =
    let same : length file + (n - length file) ≡ n = omega (arith, h) in
    ap (λ m. take m (file ++ more)) (sym same) ∙ take-append-add file more (n - length file)
