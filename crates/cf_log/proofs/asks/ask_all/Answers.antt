use Rattle.cf_query.proofs.Walked.{of_walked}
use Rattle.cf_query.proofs.Walking.{asked_walked}
use Rattle.cf_log.proofs.Asked.{answers_more}
use Rattle.cf_log.proofs.asks.ask_all.Goals as goal

pub returns-in_err-ask_seen-clause-asked : goal.returns-in_err-ask_seen-clause-asked
returns-in_err-ask_seen-clause-asked g c =
    asked_walked c.args.log.now.shape (g.P.Pass.held c.args.pass.now) (g.P.Pass.held c.loop-question.pass) (g.P.Pass.held c.ask_seen.new.pass)
    c.loop-question.invariant.asked c.ask_seen.ensures.walked

pub returns-in_err-push-clause-asked : goal.returns-in_err-push-clause-asked
returns-in_err-push-clause-asked g c =
    asked_walked c.args.log.now.shape (g.P.Pass.held c.args.pass.now) (g.P.Pass.held c.loop-question.pass) (g.P.Pass.held c.ask_seen.new.pass)
    c.loop-question.invariant.asked c.ask_seen.ensures.walked

pub loop-question-preserved : goal.loop-question-preserved
loop-question-preserved g c =
    let n = g.P.Pass.held c.loop-question.pass in
    let o = g.P.Pass.held c.ask_seen.new.pass in
    let v = c.loop-question.invariant in
    record {
      of = of_walked c.args.log.now n o c.ask_seen.ensures.walked v.of;
      asked = asked_walked c.args.log.now.shape (g.P.Pass.held c.args.pass.now) n o v.asked c.ask_seen.ensures.walked;
      answers = answers_more c.args.log.now.shape n o c.args.questions.now c.loop-question.answers.items c.push.new.self.items
          c.loop-question.question-index c.question-item.result c.in_ok-ask_seen.field-0 c.ask_seen.ensures.walked v.answers
          c.loop-question-test.true c.question-item.is c.in_ok-ask_seen.ensures.ok c.in_ok-push.ensures.items;
    }
