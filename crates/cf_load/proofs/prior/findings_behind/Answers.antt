use Rattle.std.proofs.Common.{◌≡◌, ◌<◌, ◌++◌, ℕ, List, length, get_or, ap, sym, subst, ◌∙◌, rules}
use Rattle.std.proofs.lemmas.List.{get_or-map}
use Rattle.cf_row.specs.declared.row.Entry.{Entry}
use Rattle.cf_plain.specs.Answered.{no_ask}
use Rattle.cf_plain.specs.Asks.{rows_in}
use Rattle.cf_plain.specs.Segments.{finding_in}
use Rattle.cf_plain.specs.declared.ask.Ask.{Ask}
use Rattle.cf_plain.specs.declared.finding.Finding.{Finding}
use Rattle.cf_load.specs.Priors.{HasFound, entries_before}
use Rattle.cf_segments.proofs.Keeping.{keeps_asked, keeps_none, keeps_then, keeps_walked}
use Rattle.cf_load.proofs.Findings.{made_more}
use Rattle.cf_load.proofs.Reading.{get_there}
use Rattle.cf_load.proofs.Asking.{reader_walked}
use Rattle.cf_load.proofs.prior.findings_behind.Goals as goal

pub loop-turn-init : goal.loop-turn-init
loop-turn-init g c =
    let asked = c.tail.ensures.asked in record {
      reader = record { of = search rules; few = asked.few; fit = asked.fit };
      keeps = keeps_asked c.args.log.now.shape c.args.root.now c.tail.new.pass asked c.requires.of.1;
      found = c.new-findings.ensures.items;
    }

pub loop-turn-preserved : goal.loop-turn-preserved
loop-turn-preserved g c =
    let shape = c.args.log.now.shape in
    let plan = c.args.plan.now in
    let prior = c.args.prior.now in
    let before : List Entry = entries_before prior in
    let v = c.loop-turn.invariant in
    let i = c.loop-turn.turn in
    let m = c.loop-turn.root in
    let n = c.find_behind.new.pass in
    let question : Ask = c.index-question.result.now in
    let place : ℕ = c.index-place.result.now in
    let all : List Entry = before ++ (c.args.root.now.view).seen in
    let there : i < length plan.lives.items = search rules in
    let at : place ≡ get_or plan.lives.items i place = c.index-place.ensures in
    let same : place ≡ get_or plan.lives.items i 0 = at ∙ get_there plan.lives.items i place 0 there in
    let low : place < length plan.asks.items = subst (λ (k : ℕ). k < length plan.asks.items) (sym same) (c.requires.plan.lives i 0 there) in
    let asked : question ≡ get_or plan.asks.items place no_ask = c.index-question.ensures ∙ get_there plan.asks.items place question no_ask low in
    let found : c.index.result.now ≡ finding_in shape (get_or plan.asks.items place no_ask) (rows_in before) =
    c.index.ensures
    ∙ (ap (λ (fs : List Finding). get_or fs i c.index.result.now) (c.requires.prior.found (search rules))
    ∙ (get_or-map (λ (k : ℕ). finding_in shape (get_or plan.asks.items k no_ask) (rows_in before)) plan.lives.items i place c.index.result.now there
    ∙ ap (λ (k : ℕ). finding_in shape (get_or plan.asks.items k no_ask) (rows_in before)) (sym at))) in
    let has : HasFound shape question before prior.base c.in_ok-copy.field-0 = record {
      count_is = c.requires.prior.base_is;
      finding_is = c.in_ok-copy.ensures ∙ (found ∙ ap (λ (a : Ask). finding_in shape a (rows_in before)) (sym asked));
    } in
    let one : c.in_ok-found.found ≡ finding_in shape (get_or plan.asks.items (get_or plan.lives.items i 0) no_ask) (rows_in all) =
    (c.in_ok-found.ensures.found before has).finding_is
    ∙ (ap (λ (es : List Entry). finding_in shape question (rows_in (before ++ es))) v.keeps.seen
    ∙ (ap (λ (a : Ask). finding_in shape a (rows_in all)) asked
    ∙ ap (λ (k : ℕ). finding_in shape (get_or plan.asks.items k no_ask) (rows_in all)) same)) in
    record {
      reader = reader_walked c.args.log.now m n v.reader c.find_behind.ensures.walked.only;
      keeps = keeps_then c.args.root.now m n v.keeps (keeps_walked m n c.find_behind.ensures.walked.only);
      found = made_more
          (λ (k : ℕ). finding_in shape (get_or plan.asks.items k no_ask)
          (rows_in all)) plan.lives.items c.loop-turn.findings.items c.push.new.self.items i 0 c.in_ok-found.found v.found there one
          c.in_ok-push.ensures.items;
    }

pub returns-then-makes_no_round-clause-keeps : goal.returns-then-makes_no_round-clause-keeps
returns-then-makes_no_round-clause-keeps g c = keeps_none c.args.root.now

pub returns-in_err-found-clause-keeps : goal.returns-in_err-found-clause-keeps
returns-in_err-found-clause-keeps g c =
    keeps_then c.args.root.now c.loop-turn.root c.find_behind.new.pass c.loop-turn.invariant.keeps
    (keeps_walked c.loop-turn.root c.find_behind.new.pass c.find_behind.ensures.walked.only)

pub returns-in_err-push-clause-keeps : goal.returns-in_err-push-clause-keeps
returns-in_err-push-clause-keeps g c =
    keeps_then c.args.root.now c.loop-turn.root c.find_behind.new.pass c.loop-turn.invariant.keeps
    (keeps_walked c.loop-turn.root c.find_behind.new.pass c.find_behind.ensures.walked.only)
