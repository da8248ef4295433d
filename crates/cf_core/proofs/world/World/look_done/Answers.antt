use Rattle.std.proofs.Common.{◌≡◌, ◌-◌, arith, rules}
use Rattle.cf_law.specs.Events.WorldEvent.{acts}
use Rattle.cf_law.specs.Steps.{pass_with_look}
use Rattle.cf_law.specs.Steps.Act.{look_done}
use Rattle.cf_core.proofs.Making.{look_does, made, made_lawful, pass_there}
use Rattle.cf_core.proofs.world.World.look_done.Goals as goal

pub put-requires-clause-pass : goal.put-requires-clause-pass
put-requires-clause-pass c = pass_there c.args.self.now c.args.number c.in-Some.pass.now c.in-Some.ensures

pub put-requires-clause-lawful : goal.put-requires-clause-lawful
put-requires-clause-lawful c =
    let lt = rw c.shape-shape.ensures.shape at (rw c.capacity.ensures.capacity at c.if-offset-capacity.false) in
    let words = rw c.shape-shape.ensures.shape at c.ticket_words.ensures.words in
    let after : c.in_ok-after.after ≡ pass_with_look c.ticket_place-place.result c.word-found.result c.in-Some.pass.now =
    search (rules, c.in_ok-after.ensures) in
    let does = look_does c.args.self.now c.args.number c.args.offset c.ticket_place-place.result
    (c.ticket_words.result - 1) c.word-found.result c.in-Some.pass.now c.in_ok-after.after c.in-Some.ensures lt
    (omega (arith, words)) c.ticket_place-place.ensures.at c.word-found.ensures after in
    made_lawful c.args.self.now c.args.number (acts (look_done c.args.offset)) _ c.shape-shape.ensures.lawful does

pub returns : goal.returns
returns c =
    let lt = rw c.shape-shape.ensures.shape at (rw c.capacity.ensures.capacity at c.if-offset-capacity.false) in
    let words = rw c.shape-shape.ensures.shape at c.ticket_words.ensures.words in
    let after : c.in_ok-after.after ≡ pass_with_look c.ticket_place-place.result c.word-found.result c.in-Some.pass.now =
    search (rules, c.in_ok-after.ensures) in
    let does = look_does c.args.self.now c.args.number c.args.offset c.ticket_place-place.result
    (c.ticket_words.result - 1) c.word-found.result c.in-Some.pass.now c.in_ok-after.after c.in-Some.ensures lt
    (omega (arith, words)) c.ticket_place-place.ensures.at c.word-found.ensures after in
    made c.args.self.now c.put.new.self c.args.number (acts (look_done c.args.offset)) _ _ c.put.ensures does
