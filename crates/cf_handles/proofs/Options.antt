-- Options that are not empty, and tests that both hold.
use mathlib.Core.Path.{◌≡◌, refl}
use mathlib.Core.Bool.{Bool, true, false, ◌&&◌}
use lib.Dec.{T}
use Rattle.std.specs.Prelude.{Option, Some, None}

pub some_of : {A : Type 0} (o : Option A) → (o ≡ None → ⊥) → (x : A) × (o ≡ Some x)
some_of None h = absurd (h refl)
some_of (Some x) h = (x, refl)

pub both_tt : (a b : Bool) → T a → T b → T (a && (b && true))
both_tt true true p q = tt
both_tt true false p q = q
both_tt false b p q = p
