use Rattle.std.proofs.Common.{[], ◌∷◌}
use Rattle.cf_intake.specs.declared.refusal.Stop.TheVariants.{Memory}
use Rattle.cf_follow.specs.declared.ending.Ending.TheVariants.{Stopped}
use Rattle.cf_follow.proofs.Hearing.{err_gone, one_full, one_gone, one_lost, one_no_nodes, waited_ends, waited_gone, waited_lost}
use Rattle.cf_follow.proofs.gone.take_row.Goals as goal

pub returns-in_err-take-clause-gone : goal.returns-in_err-take-clause-gone
returns-in_err-take-clause-gone g c =
    let held = g.K.Sink.held c.args.sink.now in
    err_gone c.args.rounds.now c.take.new.self (c.args.row.now ∷ []) held held c.from_residual.result (Stopped Memory)
    (one_lost c.args.rounds.now c.args.row.now held c.requires.within) c.from_residual.ensures.1

pub returns-in_err-tell-in-Waits-clause-gone : goal.returns-in_err-tell-in-Waits-clause-gone
returns-in_err-tell-in-Waits-clause-gone g c =
    let held = g.K.Sink.held c.args.sink.now in
    let kept = g.K.Sink.held c.tell.new.sink in
    err_gone c.args.rounds.now c.tell.new.rounds (c.args.row.now ∷ []) held kept c.from_residual-in_err-tell-in-Waits.result c.in_err-tell-in-Waits.field-0.0
    (waited_ends c.args.rounds.now c.args.row.now held c.requires.within c.take.new.self (rw c.in-Waits.is at c.in_ok-take.ensures.answer) c.tell.new.rounds kept
    c.in_err-tell-in-Waits.field-0.0 c.in_err-tell-in-Waits.ensures.told) c.from_residual-in_err-tell-in-Waits.ensures.1

pub returns-in_err-take_waited-in-Waits-clause-gone : goal.returns-in_err-take_waited-in-Waits-clause-gone
returns-in_err-take_waited-in-Waits-clause-gone g c =
    let held = g.K.Sink.held c.args.sink.now in
    let kept = g.K.Sink.held c.tell.new.sink in
    err_gone c.args.rounds.now c.take_waited.new.self (c.args.row.now ∷ []) held kept c.from_residual-in_err-take_waited-in-Waits.result (Stopped Memory)
    (waited_lost c.args.rounds.now c.args.row.now held c.requires.within c.take.new.self (rw c.in-Waits.is at c.in_ok-take.ensures.answer) c.tell.new.rounds kept
    c.in_ok-tell-in-Waits.field-0 c.in_ok-tell-in-Waits.ensures.told) c.from_residual-in_err-take_waited-in-Waits.ensures.1

pub returns-in_ok-take_waited-in-Waits-clause-gone : goal.returns-in_ok-take_waited-in-Waits-clause-gone
returns-in_ok-take_waited-in-Waits-clause-gone g c =
    waited_gone c.args.rounds.now c.args.row.now (g.K.Sink.held c.args.sink.now) c.requires.within c.take.new.self (rw c.in-Waits.is at c.in_ok-take.ensures.answer)
    c.tell.new.rounds c.take_waited.new.self (g.K.Sink.held c.tell.new.sink) c.in_ok-tell-in-Waits.field-0 c.in_ok-tell-in-Waits.ensures.told
    c.in_ok-take_waited-in-Waits.ensures.gone

pub returns-in-Gone-clause-gone : goal.returns-in-Gone-clause-gone
returns-in-Gone-clause-gone g c =
    one_gone c.args.rounds.now c.args.row.now (g.K.Sink.held c.args.sink.now) c.requires.within c.take.new.self
    (rw c.in-Gone.is at c.in_ok-take.ensures.answer)

pub returns-in-Full-clause-gone : goal.returns-in-Full-clause-gone
returns-in-Full-clause-gone g c =
    one_full c.args.rounds.now c.args.row.now (g.K.Sink.held c.args.sink.now) c.requires.within c.take.new.self c.count-most.result
    (rw c.in-Full.is at c.in_ok-take.ensures.answer) c.count-most.ensures

pub returns-in-NoNodes-clause-gone : goal.returns-in-NoNodes-clause-gone
returns-in-NoNodes-clause-gone g c =
    one_no_nodes c.args.rounds.now c.args.row.now (g.K.Sink.held c.args.sink.now) c.requires.within c.take.new.self c.nodes-nodes.result
    (rw c.in-NoNodes.is at c.in_ok-take.ensures.answer) (rw c.shape.ensures at c.nodes-nodes.ensures.nodes)
