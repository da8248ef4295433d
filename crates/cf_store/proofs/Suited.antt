-- Each question and each trigger of a setup suits a log of its shape.
use Rattle.std.proofs.Common.{◌≡◌, ℕ, true, sym, subst}
use Rattle.std.specs.List.{list_all}
use Rattle.cf_shape.specs.Lanes.{ShapeValue}
use Rattle.cf_plain.specs.Asks.{suits_of, suits_trigger}
use Rattle.cf_setup.specs.Setups.{SetupValue, IsSetup, shaped}

pub all_suit : (setup : SetupValue) (capacity writers nodes : ℕ) (shape : ShapeValue) → IsSetup setup → shape ≡ shaped setup capacity writers nodes
    → list_all (suits_of shape) setup.asks ≡ true
all_suit setup capacity writers nodes shape lawful is =
    subst (λ (s : ShapeValue). list_all (suits_of s) setup.asks ≡ true) (sym is) (lawful.asks capacity writers nodes)

pub all_armed : (setup : SetupValue) (capacity writers nodes : ℕ) (shape : ShapeValue) → IsSetup setup → shape ≡ shaped setup capacity writers nodes
    → list_all (suits_trigger shape) setup.triggers ≡ true
all_armed setup capacity writers nodes shape lawful is =
    subst (λ (s : ShapeValue). list_all (suits_trigger s) setup.triggers ≡ true) (sym is) (lawful.triggers capacity writers nodes)
