use Rattle.std.proofs.Common.{◌≡◌, ◌∷◌, [], true, rules}
use Rattle.cf_law.specs.Passes.{Book}
use Rattle.cf_law.specs.Events.WorldEvent.{acts}
use Rattle.cf_law.specs.Shapes.{layout}
use Rattle.cf_law.specs.Steps.Act.{take_ticket}
use Rattle.cf_pass.specs.Books.{MayTake, ticketed_at}
use Rattle.cf_core.proofs.Making.{made, made_lawful}
use Rattle.cf_core.proofs.Tickets.{ticket_does}
use Rattle.cf_core.proofs.world.World.take_ticket.Goals as goal

pub put-requires-clause-lawful : goal.put-requires-clause-lawful
put-requires-clause-lawful c =
    let fits : (layout c.args.self.now.shape).fits c.args.row.now ≡ true = rw c.shape-shape.ensures.shape at ((c.is_of.ensures).0 c.if-not-is_of.false) in
    let may : MayTake c.in-Some.pass.now = (c.may_take.ensures).0 c.if-not-may_take.false in
    let after : (b : Book) → c.in-Some.pass.now.books ≡ b ∷ []
    → c.in_ok-after.after ≡ record c.in-Some.pass.now { books = ticketed_at c.args.self.now.shape.capacity c.args.row.now c.write_tail-tail.result b ∷ [] } =
    λ b one. search (rules, c.in_ok-after.ensures b one, c.capacity.ensures.capacity, c.shape-shape.ensures.shape) in
    let does = ticket_does c.args.self.now c.args.number c.write_tail-tail.result c.args.row.now c.in-Some.pass.now c.in_ok-after.after c.in-Some.ensures fits
    may c.write_tail-tail.ensures.tail after in
    made_lawful c.args.self.now c.args.number (acts (take_ticket c.args.row.now)) _ c.write_tail-tail.ensures.lawful does

pub returns : goal.returns
returns c =
    let fits : (layout c.args.self.now.shape).fits c.args.row.now ≡ true = rw c.shape-shape.ensures.shape at ((c.is_of.ensures).0 c.if-not-is_of.false) in
    let may : MayTake c.in-Some.pass.now = (c.may_take.ensures).0 c.if-not-may_take.false in
    let after : (b : Book) → c.in-Some.pass.now.books ≡ b ∷ []
    → c.in_ok-after.after ≡ record c.in-Some.pass.now { books = ticketed_at c.args.self.now.shape.capacity c.args.row.now c.write_tail-tail.result b ∷ [] } =
    λ b one. search (rules, c.in_ok-after.ensures b one, c.capacity.ensures.capacity, c.shape-shape.ensures.shape) in
    let does = ticket_does c.args.self.now c.args.number c.write_tail-tail.result c.args.row.now c.in-Some.pass.now c.in_ok-after.after c.in-Some.ensures fits
    may c.write_tail-tail.ensures.tail after in
    made c.args.self.now c.put.new.self c.args.number (acts (take_ticket c.args.row.now)) _ _ c.put.ensures does
