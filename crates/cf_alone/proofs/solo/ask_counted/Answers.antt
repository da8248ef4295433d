use Rattle.cf_alone.proofs.Alone.{asked_either, asked_seen, seen_still, still}
use Rattle.cf_alone.proofs.solo.ask_counted.Goals as goal

pub returns-clause-still : goal.returns-clause-still
returns-clause-still g c =
    let log = c.args.log.now in
    let m = c.args.pass.now in
    let n = c.ask.new.pass in
    still log m n c.requires.may.alone (asked_either log c.args.question.now m n c.ask.result c.ask.ensures.ok c.ask.ensures.memory)

pub returns-clause-ok : goal.returns-clause-ok
returns-clause-ok g c =
    let log = c.args.log.now in
    let m = c.args.pass.now in
    let n = c.ask.new.pass in
    let asked = asked_either log c.args.question.now m n c.ask.result c.ask.ensures.ok c.ask.ensures.memory in
    asked_seen log c.args.question.now m n c.ask.result c.ask.ensures.ok (seen_still log m n c.requires.may.alone asked)
