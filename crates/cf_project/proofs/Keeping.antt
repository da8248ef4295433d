-- What stands where among the items that are kept.
use Rattle.std.proofs.Common.{◌≡◌, ◌∙◌, ℕ, zero, suc, ◌+◌, ◌<◌, ◌≤◌, Bool, true, false, ◌||◌, cond, List, [], ◌∷◌, ◌++◌, length, take, drop, get_or, map, filter, slice_get, refl, ap, ap₂, sym, arith, inl, inr, add-one}
use Rattle.std.specs.List.{list_all, list_any, range_with_len}
use Rattle.std.proofs.lemmas.Bool.{cases_Bool}
use Rattle.std.proofs.lemmas.List.{map_push, take_more}
use Rattle.cf_row.proofs.Truths.{both}
pub use Rattle.cf_row.proofs.Keeping.{keep_all, keep_end, keep_fewer, keep_more, keep_none}
use Rattle.cf_project.specs.Keeping.{is_kept, keep, new_place}

-- an item that is kept stands at its new place
pub keep_at : {X : Type 0} (marks : List Bool) (xs : List X) (place : ℕ) (d : X) → is_kept marks place ≡ true
    → get_or (keep marks xs) (new_place marks place) d ≡ get_or xs place d
keep_at [] xs place d kept = absurd (cc kept)
keep_at (mark ∷ marks) [] place d kept = refl
keep_at (true ∷ marks) (x ∷ xs) zero d kept = refl
keep_at (true ∷ marks) (x ∷ xs) (suc place) d kept = keep_at marks xs place d kept
keep_at (false ∷ marks) (x ∷ xs) zero d kept = absurd (cc kept)
keep_at (false ∷ marks) (x ∷ xs) (suc place) d kept = keep_at marks xs place d kept

pub keep_get : {X : Type 0} (marks : List Bool) (xs : List X) (place : ℕ) → is_kept marks place ≡ true
    → slice_get (keep marks xs) (new_place marks place) ≡ slice_get xs place
keep_get [] xs place kept = absurd (cc kept)
keep_get (mark ∷ marks) [] place kept = refl
keep_get (true ∷ marks) (x ∷ xs) zero kept = refl
keep_get (true ∷ marks) (x ∷ xs) (suc place) kept = keep_get marks xs place kept
keep_get (false ∷ marks) (x ∷ xs) zero kept = absurd (cc kept)
keep_get (false ∷ marks) (x ∷ xs) (suc place) kept = keep_get marks xs place kept

-- neither of two tests is passed
pub neither : (a b : Bool) → (a || b) ≡ false → (a ≡ false) × (b ≡ false)
neither false b fails = (refl, fails)
neither true b fails = absurd (cc fails)

pub keep_any : {X : Type 0} (p : X → Bool) (marks : List Bool) (xs : List X) → list_any p xs ≡ false → list_any p (keep marks xs) ≡ false
keep_any p [] xs fails = refl
keep_any p (mark ∷ marks) [] fails = refl
keep_any p (true ∷ marks) (x ∷ xs) fails =
    let parts = neither (p x) (list_any p xs) fails in rw (parts.0) (keep_any p marks xs parts.1)
keep_any p (false ∷ marks) (x ∷ xs) fails = keep_any p marks xs (neither (p x) (list_any p xs) fails).1

-- an item of a list of which all pass, or another that passes
pub all_at : {X : Type 0} (p : X → Bool) (xs : List X) (place : ℕ) (d : X) → list_all p xs ≡ true → p d ≡ true → p (get_or xs place d) ≡ true
all_at p [] place d all other = other
all_at p (x ∷ xs) zero d all other = (both (p x) (list_all p xs) all).0
all_at p (x ∷ xs) (suc place) d all other = all_at p xs place d (both (p x) (list_all p xs) all).1 other

-- what is made of the items of a list, where another makes the same of those that are mapped and pass alike
pub through : {X Y Z : Type 0} (g : X → Y) (f : X → Z) (h : Y → Z) (p : X → Bool) (q : Y → Bool) → ((x : X) → h (g x) ≡ f x) → ((x : X) → q (g x) ≡ p x)
    → (xs : List X) → map h (filter q (map g xs)) ≡ map f (filter p xs)
through g f h p q same passes [] = refl
through g f h p q same passes (x ∷ xs) = elim (cases_Bool (p x)) [
  | inl is ↦ rw (passes x, is, same x) (ap (λ zs. f x ∷ zs) (through g f h p q same passes xs))
  | inr is ↦ rw (passes x, is) (through g f h p q same passes xs)
]

pub place_none : (marks : List Bool) → new_place marks 0 ≡ 0
place_none [] = refl
place_none (mark ∷ marks) = refl

place_next : (marks : List Bool) (i : ℕ) (m : Bool) → i < length marks → new_place marks (suc i) ≡ cond (get_or marks i m) (suc (new_place marks i)) (new_place marks i)
place_next [] i m low = absurd (omega (arith, low))
place_next (true ∷ marks) zero m low = ap suc (place_none marks)
place_next (false ∷ marks) zero m low = place_none marks
place_next (true ∷ marks) (suc i) m low =
    let rest = place_next marks i m (omega (arith, low)) in
    elim (cases_Bool (get_or marks i m)) [
      | inl is ↦ rw is (ap suc (rw is at rest))
      | inr is ↦ rw is (ap suc (rw is at rest))
    ]
place_next (false ∷ marks) (suc i) m low = place_next marks i m (omega (arith, low))

pub place_more : (marks : List Bool) (i : ℕ) (m : Bool) → i < length marks → new_place marks (i + 1) ≡ cond (get_or marks i m) (suc (new_place marks i)) (new_place marks i)
place_more marks i m low = rw (add-one i) (place_next marks i m low)

pub place_low : (marks : List Bool) (i : ℕ) → new_place marks i ≤ i
place_low [] i = omega arith
place_low (mark ∷ marks) zero = omega arith
place_low (true ∷ marks) (suc i) = omega (arith, place_low marks i)
place_low (false ∷ marks) (suc i) = omega (arith, place_low marks i)

-- behind the last mark
pub place_past : (marks : List Bool) (i : ℕ) → length marks ≤ i → new_place marks (length marks) ≡ new_place marks i
place_past [] i high = refl
place_past (mark ∷ marks) zero high = absurd (omega (arith, high))
place_past (true ∷ marks) (suc i) high = ap suc (place_past marks i (omega (arith, high)))
place_past (false ∷ marks) (suc i) high = place_past marks i (omega (arith, high))

range_next : {X : Type 0} (f : ℕ → X) (from n : ℕ) → map f (range_with_len from (suc n)) ≡ map f (range_with_len from n) ++ f (from + n) ∷ []
range_next f from zero = ap (λ (k : ℕ). f k ∷ []) (let e : from ≡ from + 0 = omega arith in e)
range_next f from (suc n) =
    ap (λ xs. f from ∷ xs) (range_next f (from + 1) n ∙ ap (λ (k : ℕ). map f (range_with_len (from + 1) n) ++ f k ∷ []) (let e : from + 1 + n ≡ from + suc n = omega arith in e))

pub range_more : {X : Type 0} (f : ℕ → X) (n : ℕ) → map f (range_with_len 0 (n + 1)) ≡ map f (range_with_len 0 n) ++ f n ∷ []
range_more f n = rw (add-one n) (range_next f 0 n ∙ ap (λ (k : ℕ). map f (range_with_len 0 n) ++ f k ∷ []) (let e : 0 + n ≡ n = omega arith in e))

-- what is made of the item at a place
pub map_at : {X Y : Type 0} (f : X → Y) (xs : List X) (place : ℕ) (d : X) → get_or (map f xs) place (f d) ≡ f (get_or xs place d)
map_at f [] place d = refl
map_at f (x ∷ xs) zero d = refl
map_at f (x ∷ xs) (suc place) d = map_at f xs place d

-- one more of what is made of each
pub made_more : {X Y : Type 0} (f : X → Y) (xs : List X) (ys zs : List Y) (i : ℕ) (d : X) (y : Y) → ys ≡ map f (take i xs) → i < length xs
    → y ≡ f (get_or xs i d) → zs ≡ ys ++ y ∷ [] → zs ≡ map f (take (i + 1) xs)
made_more f xs ys zs i d y is lt one more = more
    ∙ (ap₂ (λ made a. made ++ a ∷ []) is one ∙ (sym (map_push f (take i xs) (get_or xs i d)) ∙ ap (map f) (sym (take_more xs i d lt))))

-- of a list of which the first items are mapped, the next one is as it was
pub over_at : {X : Type 0} (f : X → X) (xs : List X) (place : ℕ) (d : X) → get_or (map f (take place xs) ++ drop place xs) place d ≡ get_or xs place d
over_at f [] zero d = refl
over_at f [] (suc place) d = refl
over_at f (x ∷ xs) zero d = refl
over_at f (x ∷ xs) (suc place) d = over_at f xs place d
