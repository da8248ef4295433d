-- Places are looked at one after the other.
use Rattle.std.proofs.Common.{true, false, Bool, Option, ◌-◌, ◌≡◌, ◌∙◌, ◌<◌, ◌≤◌, ◌+◌, ℕ, List, [], ◌∷◌, ◌++◌, length, zero, suc, Some, None, slice_get, get_or, set, refl, sym, ap, subst, inl, inr, arith, get_or-set_same}
use Rattle.std.specs.Option.{is_some}
use Rattle.std.proofs.lemmas.Option.{slice_get-get_or}
use Rattle.std.proofs.lemmas.Bool.{cases_lt}
use Rattle.cf_law.proofs.Heads.{get_set_other, get_set_same}
use Rattle.cf_table.specs.Values.{PassValue}
use Rattle.cf_store.specs.Homes.{HasLooked, HaveLooked, IsAway, MayCome, PlaceValue}

pub looked_none : (places : List PlaceValue) → HaveLooked places places
looked_none [] = tt
looked_none (p ∷ places) = (inl refl, looked_none places)

-- a place that was looked at may be looked at again
pub looked_twice : (l m n : PlaceValue) → HasLooked l m → HasLooked m n → HasLooked l n
looked_twice l m n (inl same) (inl again) = inl (again ∙ ap (λ (p : PlaceValue). record p { known = n.known }) same)
looked_twice l m n (inl same) (inr came) =
    let there : m.came ≡ l.came = ap (λ (p : PlaceValue). p.came) same in
    inr (
      ap (λ (p : PlaceValue). p.home) (sym same) ∙ came.0,
      (
        came.1.0,
        came.1.1 ∙ ap (λ (ps : List PassValue). record { home = Some came.1.0; came = ps ++ came.1.0 ∷ []; known = n.known }) there,
        subst (λ (ps : List PassValue). MayCome ps came.1.0) there came.1.2,
      ),
    )
looked_twice l m n (inr came) (inl again) =
    inr (came.0, (came.1.0, again ∙ ap (λ (p : PlaceValue). record p { known = n.known }) came.1.1, came.1.2))
looked_twice l m n (inr came) (inr again) = absurd (cc (sym again.0 ∙ ap (λ (p : PlaceValue). p.home) came.1.1))

pub looked_more : (ls ms : List PlaceValue) (k : ℕ) (d n : PlaceValue) → HaveLooked ls ms → k < length ms → HasLooked (get_or ms k d) n
    → HaveLooked ls (set ms k n)
looked_more [] [] k d n all lt one = absurd (omega (arith, lt))
looked_more [] (m ∷ ms) k d n all lt one = absurd all
looked_more (l ∷ ls) [] k d n all lt one = absurd all
looked_more (l ∷ ls) (m ∷ ms) zero d n all lt one = (looked_twice l m n all.0 one, all.1)
looked_more (l ∷ ls) (m ∷ ms) (suc k) d n all lt one = (all.0, looked_more ls ms k d n all.1 (omega (arith, lt)) one)

pub home_of : (p : PlaceValue) → is_some p.home ≡ true → (pass : PassValue) × (p.home ≡ Some pass)
home_of p home = some_of p.home home
  where
    some_of : (o : Option PassValue) → is_some o ≡ true → (pass : PassValue) × (o ≡ Some pass)
    some_of None e = absurd (cc e)
    some_of (Some pass) e = (pass, refl)

pub none_of : (o : Option PassValue) → is_some o ≡ false → o ≡ None
none_of None e = refl
none_of (Some pass) e = absurd (cc e)

some_is : {X : Type 0} {x y : X} → Some x ≡ Some y → x ≡ y
some_is e = cc e

-- behind the place, and at it, all passes are away
pub away_more : (ps : List PlaceValue) (n i : ℕ) (p : PlaceValue) → length ps ≡ n → i < length ps → IsAway p
    → ((k : ℕ) (q : PlaceValue) → n ≤ k + i → slice_get ps k ≡ Some q → IsAway q)
    → (k : ℕ) (q : PlaceValue) → n ≤ k + (i + 1) → slice_get (set ps (n - 1 - i) p) k ≡ Some q → IsAway q
away_more ps n i p long lt away before k q le at = elim (cases_lt (n - 1 - i) k) [
  | inl above ↦ before k q (omega (arith, above, le)) (sym (get_set_other ps (n - 1 - i) k p (λ same. absurd (omega (arith, above, same)))) ∙ at)
  | inr below ↦ (let here : k ≡ n - 1 - i = omega (arith, below, le, lt, long) in
      let found : slice_get (set ps (n - 1 - i) p) k ≡ Some p = subst (λ (j : ℕ). slice_get (set ps (n - 1 - i) p) j ≡ Some p) (sym here)
      (get_set_same ps (n - 1 - i) p _ (slice_get-get_or ps (n - 1 - i) p (omega (arith, lt, long)))) in
      subst IsAway (some_is (sym found ∙ at)) away)
]

-- whether the place that was put there is at home
pub home_is : (ps : List PlaceValue) (k : ℕ) (p d : PlaceValue) {b : Bool} → k < length ps → is_some (get_or (set ps k p) k d).home ≡ b → is_some p.home ≡ b
home_is ps k p d lt is = sym (ap (λ (q : PlaceValue). is_some q.home) (get_or-set_same ps k p d lt)) ∙ is

-- up to the place, and at it, all passes are at home
pub home_more : (ps : List PlaceValue) (k : ℕ) (p : PlaceValue) → k < length ps → is_some p.home ≡ true
    → ((j : ℕ) (d : PlaceValue) → j < k → is_some (get_or ps j d).home ≡ true) → (j : ℕ) (d : PlaceValue) → j < k + 1
    → is_some (get_or (set ps k p) j d).home ≡ true
home_more [] k p lt is before j d low = absurd (omega (arith, lt))
home_more (q ∷ ps) zero p lt is before zero d low = is
home_more (q ∷ ps) zero p lt is before (suc j) d low = absurd (omega (arith, low))
home_more (q ∷ ps) (suc k) p lt is before zero d low = before 0 d (omega arith)
home_more (q ∷ ps) (suc k) p lt is before (suc j) d low =
    home_more ps k p (omega (arith, lt)) is (λ i e less. before (suc i) e (omega (arith, less))) j d (omega (arith, low))
