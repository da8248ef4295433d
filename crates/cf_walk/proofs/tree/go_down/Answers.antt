use Rattle.std.proofs.Common.{◌∙◌, ap, rules}
use Rattle.cf_law.specs.Words.{spot}
use Rattle.cf_law.specs.Nibbles.{nibbles}
use Rattle.cf_shape.specs.Lanes.{ShapeValue}
use Rattle.cf_shape.specs.Places.{place, sizes_of}
use Rattle.cf_table.proofs.Mays.{may_child}
use Rattle.cf_walk.specs.Walks.{turn_slot}
use Rattle.cf_table.proofs.Looks.{child_loads}
use Rattle.cf_walk.proofs.Turns.{turn_child, turned}
use Rattle.cf_walk.proofs.tree.go_down.Goals as goal

pub load_turn-requires : goal.load_turn-requires
load_turn-requires g c κs within =
    let s = c.args.log.now.shape in
    let t = c.args.turn in
    let p = (g.P.Pass.held c.args.pass.now).view in (
      search rules,
      (
        search rules,
        (
          c.requires.of,
          may_child s p (spot t.lane (nibbles t.level t.front)) (turn_slot t.lane t.level t.front t.node) c.turn_place-place.result
              (c.turn_place-place.ensures ∙ ap (λ (x : ShapeValue). place (sizes_of x) (turn_slot t.lane t.level t.front t.node)) c.shape.ensures.shape)
              (turn_child s p t.lane t.level t.front t.node c.shape.ensures.lawful c.requires.turn),
        ),
      ),
    )

pub returns-clause-turned : goal.returns-clause-turned
returns-clause-turned g c =
    let t = c.args.turn in
    turned c.args.log.now.shape (g.P.Pass.held c.args.pass.now)
    (g.P.Pass.held c.load_turn.new.pass) t.lane t.level t.front t.node c.load_turn.result c.shape.ensures.lawful c.requires.turn c.load_turn.ensures.made

pub returns-clause-loads : goal.returns-clause-loads
returns-clause-loads g c =
    child_loads c.args.log.now.shape (g.P.Pass.held c.args.pass.now)
    (g.P.Pass.held c.load_turn.new.pass) _ _ c.load_turn.result _ _ c.load_turn.ensures.made c.load_turn.ensures.steps
