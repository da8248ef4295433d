use Rattle.std.proofs.Common.{◌≡◌, ◌∙◌, ◌+◌, ◌-◌, ◌^◌, ◌<◌, ℕ, refl, sym, ap, subst, arith}
use Rattle.cf_shape.specs.Lanes.{ShapeValue}
use Rattle.cf_shape.specs.Nodes.{levels_of}
use Rattle.cf_law.specs.Steps.{Knows}
use Rattle.cf_walk.specs.Walks.{spot_above}
use Rattle.cf_walk.proofs.Keys.{some_levels}
use Rattle.cf_walk.proofs.Walked.{did_nothing, did_then, walked_seen}
use Rattle.cf_walk.proofs.Turns.{turn_next, turn_knows, gap_from_none}
use Rattle.cf_walk.specs.Reached.{IsPath}
use Rattle.cf_walk.specs.declared.tree.Path.{Path}
use Rattle.cf_walk.proofs.Paths.{path_turns, path_then, path_longer, path_within, path_knows, path_node}
use Rattle.cf_walk.proofs.tree.reach.Goals as goal

pub go_down-child-requires-clause-turn : goal.go_down-child-requires-clause-turn
go_down-child-requires-clause-turn g c =
    let s = c.args.log.now.shape in
    let v = c.loop-level.invariant in
    let all : c.levels-levels.result ≡ levels_of s c.args.lane = c.levels-levels.ensures
    ∙ ap (λ (x : ShapeValue). levels_of x c.args.lane) c.shape.ensures.shape in
    let test = c.loop-level-test.true in
    let low = c.loop-level.auto.level in
    turn_next s c.args.lane c.args.key c.loop-level.level c.loop-level.node c.span_of-span.result (g.P.Pass.held c.loop-level.pass).view c.requires.lane.exists
    (omega (arith, low)) (omega (arith, test, all))
    (c.span_of-span.ensures.span ∙ ap (λ (n : ℕ). 16 ^ (n - c.loop-level.level)) all) v.within v.knows

pub returns-then-child-eq0-clause-reached : goal.returns-then-child-eq0-clause-reached
returns-then-child-eq0-clause-reached g c =
    let s = c.args.log.now.shape in
    let v = c.loop-level.invariant in
    let all : c.levels-levels.result ≡ levels_of s c.args.lane = c.levels-levels.ensures
    ∙ ap (λ (x : ShapeValue). levels_of x c.args.lane) c.shape.ensures.shape in
    let test = c.loop-level-test.true in
    let m = g.P.Pass.held c.loop-level.pass in (
      c.span_of-span.ensures.some,
      gap_from_none s m.view c.args.lane c.args.key c.loop-level.level (levels_of s c.args.lane - c.loop-level.level) c.span_of-span.result
          ((g.P.Pass.held c.args.pass.now).view).seen (omega (arith, test, all)) (omega (arith, test, all))
          (c.span_of-span.ensures.span ∙ ap (λ (n : ℕ). 16 ^ (n - c.loop-level.level)) all) (walked_seen (g.P.Pass.held c.args.pass.now) m v.walked.only)
          (c.go_down-child.ensures.turned.none c.if-child-eq0.true),
    )

pub loop-level-init : goal.loop-level-init
loop-level-init g c =
    let s = c.args.log.now.shape in
    let m = g.P.Pass.held c.args.pass.now in
    let d = c.common_depth-depth.result in
    let all : c.levels-levels.result ≡ levels_of s c.args.lane = c.levels-levels.ensures
    ∙ ap (λ (x : ShapeValue). levels_of x c.args.lane) c.shape.ensures.shape in
    let p : Path = record { key = c.args.key; depth = d; nodes = c.args.path.now.nodes } in
    let is : IsPath s c.args.lane p m.view =
    path_turns s c.args.lane c.levels-levels.result c.args.path.now p m.view all c.requires.path refl c.common_depth-depth.ensures.most
    c.common_depth-depth.ensures.common in
    record {
      path = is;
      key = refl;
      depth = refl;
      walked = did_nothing m _;
      within = λ more. path_within s c.args.lane (d + 1) p m.view is refl more;
      knows = λ more. path_knows s c.args.lane (d + 1) c.args.key p m.view is refl refl more;
      steps = omega arith;
    }

pub loop-level-preserved : goal.loop-level-preserved
loop-level-preserved g c =
    let s = c.args.log.now.shape in
    let v = c.loop-level.invariant in
    let all : c.levels-levels.result ≡ levels_of s c.args.lane = c.levels-levels.ensures
    ∙ ap (λ (x : ShapeValue). levels_of x c.args.lane) c.shape.ensures.shape in
    let turned = c.go_down-child.ensures.turned in
    let some = c.if-child-eq0.false in
    let before = v.steps in
    let more = c.go_down-child.ensures.steps in
    let low = c.loop-level.auto.level in
    let test = c.loop-level-test.true in
    record {
      path = path_longer s c.args.lane c.loop-level.level (c.go_down-child.result - 1) c.loop-level.path _ (g.P.Pass.held c.go_down-child.new.pass).view
          (path_then s c.args.lane c.loop-level.path (g.P.Pass.held c.loop-level.pass)
          (g.P.Pass.held c.go_down-child.new.pass) turned.walked v.path) refl refl refl (sym v.depth) (omega (arith, test, all))
          (some_levels s c.args.lane c.shape.ensures.lawful c.requires.lane.exists).1
          (turned.within (omega (arith, some)))
          (path_node s c.args.lane c.args.key c.loop-level.path.key c.loop-level.level (c.go_down-child.result - 1) c.span_of-span.result
          (g.P.Pass.held c.go_down-child.new.pass).view v.key
          (c.span_of-span.ensures.span ∙ ap (λ (n : ℕ). 16 ^ (n - c.loop-level.level)) all) (turned.knows (omega (arith, some))));
      key = v.key;
      depth = refl;
      walked = did_then v.walked (record { only = turned.walked; loads = c.go_down-child.ensures.loads });
      within = λ lt. turned.within (omega (arith, some));
      knows = λ lt. turn_knows s c.args.lane c.args.key c.loop-level.level (c.loop-level.level + 1) (c.go_down-child.result - 1) c.span_of-span.result
          (g.P.Pass.held c.go_down-child.new.pass).view (omega arith)
          (c.span_of-span.ensures.span ∙ ap (λ (n : ℕ). 16 ^ (n - c.loop-level.level)) all) (turned.knows (omega (arith, some)));
      steps = omega (arith, before, more, low);
    }

pub returns-clause-reached : goal.returns-clause-reached
returns-clause-reached g c =
    let s = c.args.log.now.shape in
    let v = c.loop-level.invariant in
    let all : c.levels-levels.result ≡ levels_of s c.args.lane = c.levels-levels.ensures
    ∙ ap (λ (x : ShapeValue). levels_of x c.args.lane) c.shape.ensures.shape in
    let past = c.loop-level-test.false in
    let far = c.loop-level.auto in
    let some = (some_levels s c.args.lane c.shape.ensures.lawful c.requires.lane.exists).0 in
    let more : 1 < c.loop-level.level = omega (arith, past, all, some) in
    let end' : c.loop-level.level ≡ levels_of s c.args.lane = omega (arith, past, all, far) in
    record {
      exists = c.requires.lane.exists;
      within = v.within more;
      knows = subst (λ (n : ℕ). Knows (g.P.Pass.held c.loop-level.pass).view (spot_above s c.args.lane c.args.key (n - 1)) c.loop-level.node) end'
          (v.knows more);
    }
