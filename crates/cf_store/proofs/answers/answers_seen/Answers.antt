use Rattle.std.proofs.Common.{◌<◌, ◌∙◌, List, length, ap, arith}
use Rattle.cf_row.specs.declared.row.Entry.{Entry}
use Rattle.cf_plain.specs.Answered.{answer_on}
use Rattle.cf_plain.specs.declared.ask.Ask.{Ask}
use Rattle.cf_store.specs.Ends.{seen_of}
use Rattle.cf_store.proofs.Reported.{all_none, all_then, answer_is, behind_still, mapped_more, seen_still}
use Rattle.cf_store.proofs.answers.answers_seen.Goals as goal

pub returns-in_err-answers-clause-walked : goal.returns-in_err-answers-clause-walked
returns-in_err-answers-clause-walked c = all_none c.args.pass.now c.args.rest.now

pub loop-q-init : goal.loop-q-init
loop-q-init c = record { walked = all_none c.args.pass.now c.args.rest.now; answers = c.in_ok-answers.ensures.items }

pub answer_in-requires-clause-behind : goal.answer_in-requires-clause-behind
answer_in-requires-clause-behind c =
    behind_still c.args.shared.now c.args.pass.now c.loop-q.pass c.args.rest.now c.loop-q.rest c.requires.behind c.loop-q.invariant.walked

pub returns-in_err-answer_in-clause-walked : goal.returns-in_err-answer_in-clause-walked
returns-in_err-answer_in-clause-walked c =
    all_then c.args.pass.now c.loop-q.pass c.answer_in.new.pass c.args.rest.now c.loop-q.rest c.answer_in.new.rest c.loop-q.invariant.walked
    c.answer_in.ensures.walked

pub returns-in_err-push-clause-walked : goal.returns-in_err-push-clause-walked
returns-in_err-push-clause-walked c =
    all_then c.args.pass.now c.loop-q.pass c.answer_in.new.pass c.args.rest.now c.loop-q.rest c.answer_in.new.rest c.loop-q.invariant.walked
    c.answer_in.ensures.walked

pub loop-q-preserved : goal.loop-q-preserved
loop-q-preserved c =
    let shared = c.args.shared.now in
    let xs = c.args.asks.now in
    let k = c.loop-q.q in
    let now = seen_of shared c.args.pass.now c.args.rest.now in
    let then = seen_of shared c.loop-q.pass c.loop-q.rest in
    let d = c.index-asks-q.result in
    let seen = seen_still shared c.args.pass.now c.loop-q.pass c.args.rest.now c.loop-q.rest c.loop-q.invariant.walked in
    let test = c.loop-q-test.true in
    let low : k < length xs = omega (arith, test) in
    record {
      walked = all_then c.args.pass.now c.loop-q.pass c.answer_in.new.pass c.args.rest.now c.loop-q.rest c.answer_in.new.rest
          c.loop-q.invariant.walked c.answer_in.ensures.walked;
      answers = mapped_more (answer_on shared.log.shape now) (answer_on shared.log.shape then) xs k d c.in_ok-answer_in.field-0 c.loop-q.answers.items
          c.push.new.self.items low (λ ask. ap (λ (es : List Entry). answer_on shared.log.shape es ask) seen) c.loop-q.invariant.answers
          (answer_is shared.log.shape then d c.in_ok-answer_in.field-0 c.in_ok-answer_in.ensures.tail c.in_ok-answer_in.ensures.body
          ∙ ap (λ (ask : Ask). answer_on shared.log.shape then ask) c.index-asks-q.is)
          c.in_ok-push.ensures.items;
    }
