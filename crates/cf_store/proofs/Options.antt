-- Tests that are true and false.
use mathlib.Core.Path.{◌≡◌, ◌∙◌, sym, subst}
use mathlib.Core.Bool.{Bool, true, false}

abbrev fact_of : Bool → Type 0
fact_of true = Unit {0}
fact_of false = ⊥

pub not_both : (b : Bool) → b ≡ false → b ≡ true → ⊥
not_both b e f = subst fact_of (sym f ∙ e) tt
