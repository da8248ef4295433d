use Rattle.std.proofs.Common.{◌≤◌, ◌+◌, ◌++◌, List, ap, subst, ◌∙◌, arith, rules}
use Rattle.cf_row.specs.declared.row.Entry.{Entry}
use Rattle.cf_plain.specs.Answered.{answer_on}
use Rattle.cf_query.proofs.Walking.{asked_walked, walked_seen}
use Rattle.cf_load.specs.Costs.{bucket_steps, key_steps}
use Rattle.cf_load.proofs.Findings.{found_tells}
use Rattle.cf_load.proofs.prior.answer_behind.Goals as goal

pub find_behind-requires-clause-reader : goal.find_behind-requires-clause-reader
find_behind-requires-clause-reader g c = record { of = search rules; few = c.tail.ensures.asked.few; fit = c.tail.ensures.asked.fit }

pub returns-clause-asked : goal.returns-clause-asked
returns-clause-asked g c =
    asked_walked c.args.log.now.shape (g.P.Pass.held c.args.pass.now) (g.P.Pass.held c.tail.new.pass)
    (g.P.Pass.held c.find_behind.new.pass) c.tail.ensures.asked c.find_behind.ensures.walked.only

pub returns-in_err-tail-clause-asked : goal.returns-in_err-tail-clause-asked
returns-in_err-tail-clause-asked g c =
    asked_walked c.args.log.now.shape (g.P.Pass.held c.args.pass.now) (g.P.Pass.held c.tail.new.pass)
    (g.P.Pass.held c.find_behind.new.pass) c.tail.ensures.asked c.find_behind.ensures.walked.only

pub returns-in_err-body-clause-asked : goal.returns-in_err-body-clause-asked
returns-in_err-body-clause-asked g c =
    asked_walked c.args.log.now.shape (g.P.Pass.held c.args.pass.now) (g.P.Pass.held c.tail.new.pass)
    (g.P.Pass.held c.find_behind.new.pass) c.tail.ensures.asked c.find_behind.ensures.walked.only

pub returns-clause-answer : goal.returns-clause-answer
returns-clause-answer g c entries found =
    let shape = c.args.log.now.shape in
    let ask = c.args.ask.now in
    let n = g.P.Pass.held c.tail.new.pass in
    let o = g.P.Pass.held c.find_behind.new.pass in
    let both = c.in_ok-tail.ensures.found entries found in
    found_tells shape ask (entries ++ (n.view).seen) c.in_ok-tail.tail c.in_ok-tail.found both c.in_ok-body.body c.in_ok-body.ensures
    ∙ ap (λ (es : List Entry). answer_on shape (entries ++ es) ask) (walked_seen n o c.find_behind.ensures.walked.only)

pub returns-clause-steps : goal.returns-clause-steps
returns-clause-steps g c one =
    let shape = c.args.log.now.shape in
    let ask = c.args.ask.now in
    let n = g.P.Pass.held c.tail.new.pass in
    let o = g.P.Pass.held c.find_behind.new.pass in
    let first = c.tail.ensures.steps in
    let then = c.in_ok-tail.ensures.steps one in
    subst (λ (es : List Entry). c.find_behind.new.steps ≤ c.args.steps.now + key_steps shape ask es) (walked_seen n o c.find_behind.ensures.walked.only)
    (omega (arith, first, then))

pub returns-clause-bucket : goal.returns-clause-bucket
returns-clause-bucket g c one =
    let shape = c.args.log.now.shape in
    let ask = c.args.ask.now in
    let n = g.P.Pass.held c.tail.new.pass in
    let o = g.P.Pass.held c.find_behind.new.pass in
    let first = c.tail.ensures.steps in
    let then = c.in_ok-tail.ensures.bucket one in
    subst (λ (es : List Entry). c.find_behind.new.steps ≤ c.args.steps.now + bucket_steps shape ask es) (walked_seen n o c.find_behind.ensures.walked.only)
    (omega (arith, first, then))
