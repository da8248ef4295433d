-- Tests of whether an option is empty.
use mathlib.Core.Path.{◌≡◌, refl, subst, sym}
use mathlib.Core.Bool.{Bool, true, false}
use lib.Dec.{T}
use Rattle.std.specs.Prelude.{◌≢◌, ◌↔◌, IsTrue, Option, Some, None}

abbrev Full : {A : Type 0} → Option A → Type 0
Full None = ⊥
Full (Some x) = Unit {0}

pub ties_none : (A : Type 0) (full : Bool) → full ≡ false → IsTrue full ↔ (◌≢◌ {A = Option A} None None)
ties_none A true e = absurd (subst (λ (b : Bool). T b) e tt)
ties_none A false e = (λ t. absurd (subst (λ (b : Bool). T b) (sym t) tt), λ n. absurd (n refl))

pub ties_some : {A : Type 0} (x : A) (full : Bool) → full ≡ true → IsTrue full ↔ (Some x ≢ None)
ties_some x full e = (λ t n. subst Full n tt, λ _. e)

pub none_ties : (A : Type 0) (full : Bool) → IsTrue full ↔ (◌≢◌ {A = Option A} None None) → full ≡ false
none_ties A true t = absurd (t.0 refl refl)
none_ties A false t = refl

pub some_ties : {A : Type 0} (x : A) (full : Bool) → IsTrue full ↔ (Some x ≢ None) → full ≡ true
some_ties x full t = t.1 (λ n. subst Full n tt)
