use Rattle.std.proofs.Common.{◌≡◌, ◌∙◌, true, false, inl, inr, length, ap, sym, arith}
use Rattle.cf_shape.specs.Lanes.{ShapeValue}
use Rattle.cf_law.specs.Passes.{Pass}
use Rattle.cf_table.proofs.Settling.{looked_seen, may_advance, gone_none, gone_on, advanced, stopped_by}
use Rattle.cf_table.proofs.log.MultiLog.settle_tail.Goals as goal

pub loop-pass-init : goal.loop-pass-init
loop-pass-init g c = record { gone = gone_none (g.P.Pass.held c.args.pass.now) c.args.steps.now }

pub advance-requires-clause-lawful : goal.advance-requires-clause-lawful
advance-requires-clause-lawful g c =
    let s = c.args.self.now.shape in
    let n = g.P.Pass.held c.look_done.new.pass in
    let t = c.covered-t.result in
    let look = c.look_done.ensures.made in
    let seen = ap length (looked_seen s (g.P.Pass.held c.loop-pass.pass) n t (n.view.look).value look) in
    let at = c.covered-t.ensures in
    let low = c.loop-pass-test.true in
    let room = c.capacity-capacity.ensures.capacity ∙ ap (λ (x : ShapeValue). x.capacity) c.shape.ensures.shape in
    let known = c.covered.ensures in
    may_advance s n.view t (omega (arith, seen, at)) (omega (arith, at, low, room, known)) (ap (λ (q : Pass). (q.look).word) look.told.is)
    (c.look_done.ensures.found.0 c.if-not-look_done.false)

pub loop-pass-preserved : goal.loop-pass-preserved
loop-pass-preserved g c =
    record {
      gone = gone_on c.args.self.now.shape (g.P.Pass.held c.args.pass.now) (g.P.Pass.held c.loop-pass.pass) (g.P.Pass.held c.look_done.new.pass)
          (g.P.Pass.held c.advance.new.pass) c.covered-t.result _ _ _ _ _ c.loop-pass.invariant.gone c.covered-t.ensures c.look_done.ensures.made
          c.look_done.ensures.steps c.advance.ensures.made c.advance.ensures.steps;
    }

pub loop-pass-smaller : goal.loop-pass-smaller
loop-pass-smaller g c =
    let s = c.args.self.now.shape in
    let n = g.P.Pass.held c.look_done.new.pass in
    let t = c.covered-t.result in
    let seen = ap length (looked_seen s (g.P.Pass.held c.loop-pass.pass) n t (n.view.look).value c.look_done.ensures.made) in
    let at = c.covered-t.ensures in
    let low = c.loop-pass-test.true in
    let known = c.covered.ensures in
    let more = advanced s n (g.P.Pass.held c.advance.new.pass) t (omega (arith, seen, at)) c.advance.ensures.made in
    omega (arith, seen, at, low, known, more)

pub returns-then-not-look_done : goal.returns-then-not-look_done
returns-then-not-look_done g c =
    let s = c.args.self.now.shape in
    let n = g.P.Pass.held c.look_done.new.pass in
    let room = c.capacity-capacity.ensures.capacity ∙ ap (λ (x : ShapeValue). x.capacity) c.shape.ensures.shape in
    let at = c.covered-t.ensures in
    let low = c.loop-pass-test.true in
    let known = c.covered.ensures in
    let end = stopped_by s (g.P.Pass.held c.args.pass.now) (g.P.Pass.held c.loop-pass.pass) n c.covered-t.result _ _ _ _ c.loop-pass.invariant.gone
    c.look_done.ensures.made c.look_done.ensures.steps (inr (omega (arith, low, room, known), at, λ one. other (c.look_done.ensures.found.1 one))) in
    record { settled = end.settled; known = end.known; stops = end.stops; begins = end.begins; steps = end.steps; loads = end.loads }
  where
    other : c.look_done.result ≡ true → ⊥
    other one = (let f : true ≡ false = sym one ∙ c.if-not-look_done.true in absurd (cc f))

pub returns : goal.returns
returns g c =
    let s = c.args.self.now.shape in
    let room = c.capacity-capacity.ensures.capacity ∙ ap (λ (x : ShapeValue). x.capacity) c.shape.ensures.shape in
    let known = c.covered.ensures in
    let past = c.loop-pass-test.false in
    let end = stopped_by s (g.P.Pass.held c.args.pass.now) (g.P.Pass.held c.loop-pass.pass) (g.P.Pass.held c.look_done-2.new.pass) 0 _ _ _ _
    c.loop-pass.invariant.gone c.look_done-2.ensures.made c.look_done-2.ensures.steps (inl (omega (arith, past, room, known))) in
    record { settled = end.settled; known = end.known; stops = end.stops; begins = end.begins; steps = end.steps; loads = end.loads }
