use Rattle.std.proofs.Common.{◌≡◌, ℕ, ◌<◌, slice_get, length, ap, sym, ◌∙◌, inl, inr, arith}
use Rattle.std.proofs.lemmas.Bool.{cases_eq}
use Rattle.std.proofs.lemmas.Option.{slice_get_within}
use Rattle.cf_law.specs.Words.{Spot}
use Rattle.cf_core.specs.Worlds.{IsChildOf}
use Rattle.cf_core.proofs.Children.{node_is, item_is}
use Rattle.cf_core.proofs.world.World.below.Goals as goal

pub child_of-requires : goal.child_of-requires
child_of-requires c =
    node_is c.args.self.now c.args.number c.loop-known.known-index c.args.pass.now c.known-item.result c.shape-held.ensures.lawful c.requires
    (item_is c.args.pass.now.known c.known-known-items.result.now c.loop-known.known-index c.known-item.result c.known-known-items.ensures
    c.loop-known-test.true c.known-item.is)

pub loop-known-preserved : goal.loop-known-preserved
loop-known-preserved c = λ i d x lt at child. elim (cases_eq i c.loop-known.known-index) [
  | inl e ↦
      let there = item_is c.args.pass.now.known c.known-known-items.result.now c.loop-known.known-index c.known-item.result c.known-known-items.ensures
      c.loop-known-test.true c.known-item.is in
      let same : x ≡ c.known-item.result = cc (sym at, ap (slice_get c.args.pass.now.known) e, there) in
      c.in_default.ensures d (Rattle.std.proofs.Common.subst (λ (y : Spot × ℕ). IsChildOf c.args.self.now y c.args.place d) same child)
  | inr ne ↦ c.loop-known.invariant i d x (omega arith) at child
]

pub returns : goal.returns
returns c = λ x d below. c.loop-known.invariant below.0 d x
    (let w = slice_get_within c.args.pass.now.known below.0 x below.1 in
    omega (arith, w, c.loop-known-test.false, ap (length {A = Spot × ℕ}) c.known-known-items.ensures)) below.1 below.2

pub returns-in-Some : goal.returns-in-Some
returns-in-Some c = (
  c.loop-known.known-index,
  item_is c.args.pass.now.known c.known-known-items.result.now c.loop-known.known-index c.known-item.result c.known-known-items.ensures c.loop-known-test.true
      c.known-item.is,
  c.in-Some.ensures,
)
