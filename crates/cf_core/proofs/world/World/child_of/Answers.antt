use Rattle.std.proofs.Common.{◌≡◌, ◌+◌, ◌<◌, ℕ, suc, length, ap, ap₂, ◌∙◌, arith}
use Rattle.cf_shape.specs.Places.{place_of}
use Rattle.cf_shape.specs.Places.WordName.{child}
use Rattle.cf_shape.specs.Lanes.{ShapeValue}
use Rattle.cf_shape.specs.Nodes.{levels_of}
use Rattle.cf_law.specs.Words.{Spot}
use Rattle.cf_core.specs.Worlds.{IsChildOf}
use Rattle.cf_core.proofs.Children.{place_body_at, option_says}
use Rattle.cf_core.proofs.world.World.child_of.Goals as goal

pub returns : goal.returns
returns c =
    let x : Spot × ℕ = c.args.known.now in
    let level : c.level.result ≡ length (x.0).path = c.level.ensures.level ∙ ap (λ (s : Spot). length s.path) c.spot.ensures in
    let levels : c.levels.result ≡ levels_of c.args.self.now.shape (x.0).lane = c.levels.ensures
    ∙ ap₂ (λ (sh : ShapeValue) (l : ℕ). levels_of sh l) c.shape-shape.ensures.shape (c.lane.ensures ∙ ap (λ (s : Spot). s.lane) c.spot-2.ensures) in
    let inner : suc (length (x.0).path) < levels_of c.args.self.now.shape (x.0).lane = omega (arith, c.if-level-levels.false, level, levels) in
    let at : c.place_child.result ≡ place_of c.args.self.now.shape (child x.1 0) = c.place_child.ensures
    ∙ ap₂ (λ (sh : ShapeValue) (n : ℕ). place_of sh (child n 0)) c.shape-shape.ensures.shape c.node.ensures in
    option_says ((d : ℕ) → d < 16 → c.place_child.result + d ≡ c.args.place → ⊥) ((d : ℕ) → IsChildOf c.args.self.now x c.args.place d → ⊥)
    (λ d. (d < 16) × (c.place_child.result + d ≡ c.args.place)) (IsChildOf c.args.self.now x c.args.place) c.nibble_at.result c.nibble_at.ensures
    (λ no d h. no d h.0 (let e = h.2 in omega (arith, at, place_body_at c.args.self.now x.1 d, e)))
    (λ d h. (h.0, inner, (let e = h.1 in omega (arith, at, place_body_at c.args.self.now x.1 d, e))))
