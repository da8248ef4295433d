use Rattle.std.proofs.Common.{◌≡◌, refl, arith, rules}
use Rattle.cf_law.specs.Events.WorldEvent.{acts}
use Rattle.cf_law.specs.Steps.{pass_with_look}
use Rattle.cf_law.specs.Steps.Act.{load_word}
use Rattle.cf_core.proofs.Making.{load_does, load_only, pass_there, made, made_lawful}
use Rattle.cf_core.proofs.world.World.load_word.Goals as goal
use Rattle.cf_core.proofs.world.World.load_word.Goals.{then-offset-covered-via-then-offset-covered, then-offset-covered-via-else-offset-covered+then-from-ticket_words}

pub put-requires-clause-lawful : goal.put-requires-clause-lawful
put-requires-clause-lawful c =
    let words = rw c.shape.ensures.shape at c.ticket_words.ensures.words in
    let after : c.in_ok-after.after ≡ pass_with_look c.ticket_place-place.result c.word-found.result c.in-Some.pass.now =
    search (rules, c.in_ok-after.ensures) in
    let does = load_does c.args.self.now c.args.number c.args.offset c.ticket_place-place.result c.args.index c.word-found.result c.in-Some.pass.now
    c.in_ok-after.after c.in-Some.ensures (omega (arith, c.if-offset-covered.false, c.covered.ensures))
    (omega (arith, words, c.if-from-ticket_words.false, c.from.ensures))
    (search (rules, c.ticket_place-place.ensures.at, c.from-2.ensures)) c.word-found.ensures after in
    made_lawful c.args.self.now c.args.number (acts (load_word c.args.offset c.args.index)) _ c.shape.ensures.lawful does

pub returns : goal.returns
returns c =
    let words = rw c.shape.ensures.shape at c.ticket_words.ensures.words in
    let after : c.in_ok-after.after ≡ pass_with_look c.ticket_place-place.result c.word-found.result c.in-Some.pass.now =
    search (rules, c.in_ok-after.ensures) in
    let does = load_does c.args.self.now c.args.number c.args.offset c.ticket_place-place.result c.args.index c.word-found.result c.in-Some.pass.now
    c.in_ok-after.after c.in-Some.ensures (omega (arith, c.if-offset-covered.false, c.covered.ensures))
    (omega (arith, words, c.if-from-ticket_words.false, c.from.ensures))
    (search (rules, c.ticket_place-place.ensures.at, c.from-2.ensures)) c.word-found.ensures after in
    made c.args.self.now c.put.new.self c.args.number (acts (load_word c.args.offset c.args.index)) _ _ c.put.ensures does

pub returns-then-offset-covered : goal.returns-then-offset-covered
returns-then-offset-covered c = (
  refl,
  λ y does. (let o = load_only c.args.self.now c.args.number c.args.offset c.args.index c.in-Some.pass.now y c.in-Some.ensures does in
      elim c.then-offset-covered.branch [
        | then-offset-covered-via-then-offset-covered w ↦ absurd (let l = o.0 in omega (arith, l, w.if-offset-covered.true, c.covered.ensures))
        | then-offset-covered-via-else-offset-covered+then-from-ticket_words w ↦
            let words = rw w.shape.ensures.shape at w.ticket_words.ensures.words in
            absurd (let l = o.1 in omega (arith, l, w.if-from-ticket_words.true, w.from.ensures, words))
      ]),
)

pub put-requires-clause-pass : goal.put-requires-clause-pass
put-requires-clause-pass c = pass_there c.args.self.now c.args.number c.in-Some.pass.now c.in-Some.ensures
