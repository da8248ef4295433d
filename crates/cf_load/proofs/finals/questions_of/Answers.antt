use Rattle.std.proofs.Common.{◌++◌, ◌∷◌, [], List, sym, subst}
use Rattle.std.specs.List.{AllZip}
use Rattle.cf_load.specs.Readers.{IsQuestion}
use Rattle.cf_segments.specs.Segments.{SegmentsValue}
use Rattle.cf_load.specs.declared.finals.Question.{Question}
use Rattle.cf_load.proofs.Asking.{question_before}
use Rattle.cf_segments.proofs.Kept.{all_none, all_then}
use Rattle.cf_segments.proofs.Zips.{zip_append}
use Rattle.cf_load.proofs.finals.questions_of.Goals as goal

pub returns-in_err-questions-clause-keeps : goal.returns-in_err-questions-clause-keeps
returns-in_err-questions-clause-keeps g c = all_none c.args.segments.now

pub loop-ask-init : goal.loop-ask-init
loop-ask-init g c =
    record {
      keeps = all_none c.args.segments.now;
      are = subst (λ (qs : List Question). AllZip (IsQuestion c.args.segments.now) [] qs) (sym c.in_ok-questions.ensures.items) tt;
    }

pub returns-in_err-question-clause-keeps : goal.returns-in_err-question-clause-keeps
returns-in_err-question-clause-keeps g c =
    all_then c.args.segments.now c.loop-ask.segments c.question_of.new.segments c.loop-ask.invariant.keeps c.question_of.ensures.keeps

pub returns-in_err-push-clause-keeps : goal.returns-in_err-push-clause-keeps
returns-in_err-push-clause-keeps g c =
    all_then c.args.segments.now c.loop-ask.segments c.question_of.new.segments c.loop-ask.invariant.keeps c.question_of.ensures.keeps

pub loop-ask-preserved : goal.loop-ask-preserved
loop-ask-preserved g c =
    let s : SegmentsValue = c.args.segments.now in
    let t : SegmentsValue = c.loop-ask.segments in
    let v = c.loop-ask.invariant in
    let ask = c.in-Some.ask in
    let question = c.in_ok-question.question in
    let is : IsQuestion s ask question = question_before s t v.keeps ask question c.in_ok-question.ensures.is in
    record {
      keeps = all_then s t c.question_of.new.segments v.keeps c.question_of.ensures.keeps;
      are = subst (λ (qs : List Question). AllZip (IsQuestion s) (c.loop-ask.yielded ++ ask ∷ []) qs) (sym c.in_ok-push.ensures.items)
          (zip_append (IsQuestion s) c.loop-ask.yielded (ask ∷ []) c.loop-ask.questions.items (question ∷ []) v.are (is, tt));
    }
