use Rattle.std.proofs.Common.{◌≡◌, ◌∷◌, sym, subst, rules}
use Rattle.cf_law.specs.Words.{spot}
use Rattle.cf_core.specs.Worlds.{IsChildAt}
use Rattle.cf_core.proofs.Children.{below_found, none_found}
use Rattle.cf_core.proofs.world.World.child_at.Goals as goal

pub returns-in_default-below : goal.returns-in_default-below
returns-in_default-below c = none_found c.args.self.now c.args.pass.now c.args.place c.in_default.ensures c.in_default-below.ensures

pub returns : goal.returns
returns c =
    let b = c.in-Some-below.ensures in
    let child : c.in_ok-child.field-0 ≡ spot c.in-Some-below.known.now.0.lane (c.in-Some-below.nibble ∷ c.in-Some-below.known.now.0.path) =
    search (rules, c.in_ok-child.ensures, c.spot.ensures) in
    subst (IsChildAt c.args.self.now c.args.pass.now c.args.place) (sym child)
    (below_found c.args.self.now c.args.number c.args.place b.0 c.in-Some-below.nibble c.args.pass.now c.in-Some-below.known.now c.shape-held.ensures.lawful
    c.requires b.1 b.2)
