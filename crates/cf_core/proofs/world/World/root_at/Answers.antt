use Rattle.std.proofs.Common.{◌≡◌, ◌+◌, ◌<◌, ℕ, length, inl, inr, ap, ◌∙◌, arith, subst}
use Rattle.std.proofs.lemmas.Bool.{cases_eq}
use Rattle.cf_shape.specs.Places.{place_of}
use Rattle.cf_shape.specs.Places.WordName.{root_child}
use Rattle.cf_shape.specs.declared.lane.Lane.{Lane}
use Rattle.cf_shape.specs.Lanes.{ShapeValue}
use Rattle.cf_core.specs.Worlds.{IsRootAt}
use Rattle.cf_core.proofs.Children.{place_root_at}
use Rattle.cf_core.proofs.world.World.root_at.Goals as goal

pub returns-in-Some : goal.returns-in-Some
returns-in-Some c =
    let at : c.place_root.result ≡ place_of c.args.self.now.shape (root_child c.loop-lane.lane 0) = rw c.shape-shape.ensures.shape at c.place_root.ensures in
    let low : c.in-Some.nibble < 16 = c.in-Some.ensures.0 in
    let e : c.place_root.result + c.in-Some.nibble ≡ c.args.place = c.in-Some.ensures.1 in
    let lane : c.loop-lane.lane < length c.args.self.now.shape.lanes =
    omega (arith, c.loop-lane-test.true, ap (length {A = Lane}) (c.lanes.ensures.lanes ∙ ap (λ (s : ShapeValue). s.lanes) c.shape-shape.ensures.shape)) in
    (lane, low, omega (arith, at, place_root_at c.args.self.now c.loop-lane.lane c.in-Some.nibble, e))

pub loop-lane-preserved : goal.loop-lane-preserved
loop-lane-preserved c =
    let at : c.place_root.result ≡ place_of c.args.self.now.shape (root_child c.loop-lane.lane 0) = rw c.shape-shape.ensures.shape at c.place_root.ensures in
    λ i d lt found. elim (cases_eq i c.loop-lane.lane) [
      | inl e ↦
          let there : IsRootAt c.args.self.now c.args.place c.loop-lane.lane d = subst (λ (l : ℕ). IsRootAt c.args.self.now c.args.place l d) e found in
          let same = there.2 in
          c.in_default.ensures d there.1 (omega (arith, at, place_root_at c.args.self.now c.loop-lane.lane d, same))
      | inr ne ↦ c.loop-lane.invariant i d (omega arith) found
    ]
