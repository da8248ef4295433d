use Rattle.std.proofs.Common.{◌∙◌, ◌++◌, ◌∷◌, [], List, map, take, get_or, sym, ap, subst, arith}
use Rattle.std.proofs.lemmas.List.{map-append, take_more}
use Rattle.cf_plain.specs.Answered.{answer_on}
use Rattle.cf_plain.specs.Asks.{Suits}
use Rattle.cf_plain.specs.declared.answer.Answer.{Answer}
use Rattle.cf_plain.specs.declared.ask.Ask.{Ask}
use Rattle.cf_snapshot.specs.Hosts.{HostValue}
use Rattle.cf_snapshot.proofs.Coursing.{one_answer}
use Rattle.cf_snapshot.proofs.course.ask_frozen.Goals as goal

pub ask-requires : goal.ask-requires
ask-requires c =
    let q = c.question-item.result in
    let i = c.loop-question.question-index in
    record {
      suits = subst (λ (m : HostValue). Suits m.shape q) (sym c.loop-question.invariant.host)
          (subst (Suits c.args.host.now.shape) (sym c.question-item.is) (c.requires.suits i q (omega (arith, c.loop-question-test.true))));
    }

pub loop-question-preserved : goal.loop-question-preserved
loop-question-preserved c =
    let i = c.loop-question.invariant in
    let host = c.args.host.now in
    let q = c.question-item.result in
    let k = c.loop-question.question-index in
    let f = answer_on host.shape host.entries in
    let lt = c.loop-question-test.true in
    let one = one_answer host c.loop-question.host q c.in_ok-ask.field-0 i.host c.in_ok-ask.ensures.ok in
    record {
      host = c.ask.ensures.host ∙ i.host;
      answers = c.in_ok-push.ensures.items ∙ ap (λ (given : List Answer). given ++ c.in_ok-ask.field-0 ∷ []) i.answers
          ∙ ap (λ (a : Answer). map f (take k c.args.asks.now) ++ a ∷ []) one
          ∙ sym (ap (λ (qs : List Ask). map f qs) (take_more c.args.asks.now k q lt) ∙ map-append f (take k c.args.asks.now) (get_or c.args.asks.now k q ∷ [])
          ∙ ap (λ (x : Ask). map f (take k c.args.asks.now) ++ f x ∷ []) (sym c.question-item.is));
    }
