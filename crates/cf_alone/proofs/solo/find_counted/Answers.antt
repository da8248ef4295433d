use Rattle.cf_alone.proofs.Alone.{asked_by, found_by, seen_still, still}
use Rattle.cf_alone.proofs.solo.find_counted.Goals as goal

pub returns-clause-still : goal.returns-clause-still
returns-clause-still g c =
    let log = c.args.log.now in
    let m = c.args.pass.now in
    let n = c.finding.new.pass in
    still log m n c.requires.may.alone (asked_by log c.args.question.now m n c.finding.result c.finding.ensures.ok c.finding.ensures.memory)

pub returns-clause-ok : goal.returns-clause-ok
returns-clause-ok g c =
    let log = c.args.log.now in
    let m = c.args.pass.now in
    let n = c.finding.new.pass in
    let asked = asked_by log c.args.question.now m n c.finding.result c.finding.ensures.ok c.finding.ensures.memory in
    found_by log c.args.question.now m n c.finding.result c.finding.ensures.ok (seen_still log m n c.requires.may.alone asked)
