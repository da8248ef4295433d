use Rattle.std.proofs.Common.{◌∙◌, List, map, ap, ap₂}
use Rattle.cf_row.specs.declared.row.Entry.{Entry}
use Rattle.cf_fold.specs.declared.trigger.Trigger.{Trigger}
use Rattle.cf_plain.specs.Answered.{answer_on}
use Rattle.cf_plain.specs.Asks.{marks_over, rows_in}
use Rattle.cf_plain.specs.declared.ask.Ask.{Ask}
use Rattle.cf_plain.specs.declared.loaded.Live.{Live}
use Rattle.cf_plain.specs.declared.answer.Answer.{Answer}
use Rattle.cf_plain.specs.declared.answer.Fired.{Fired}
use Rattle.cf_report.specs.Meaning.{alerts_on}
use Rattle.cf_store.specs.Ends.{seen_of}
use Rattle.cf_store.specs.Seen.{answered_on}
use Rattle.cf_store.proofs.Reported.{all_then, behind_still, seen_still}
use Rattle.cf_store.proofs.report.loaded_seen.Goals as goal

pub alerts_seen-requires-clause-behind : goal.alerts_seen-requires-clause-behind
alerts_seen-requires-clause-behind c =
    behind_still c.args.shared.now c.args.pass.now c.answers_seen.new.pass c.args.rest.now c.answers_seen.new.rest c.requires.behind
    c.answers_seen.ensures.walked

pub returns-in_err-alerts-clause-walked : goal.returns-in_err-alerts-clause-walked
returns-in_err-alerts-clause-walked c =
    all_then c.args.pass.now c.answers_seen.new.pass c.alerts_seen.new.pass c.args.rest.now c.answers_seen.new.rest c.alerts_seen.new.rest
    c.answers_seen.ensures.walked c.alerts_seen.ensures.walked

pub returns-clause-walked : goal.returns-clause-walked
returns-clause-walked c =
    all_then c.args.pass.now c.answers_seen.new.pass c.alerts_seen.new.pass c.args.rest.now c.answers_seen.new.rest c.alerts_seen.new.rest
    c.answers_seen.ensures.walked c.alerts_seen.ensures.walked

pub returns-clause-loaded : goal.returns-clause-loaded
returns-clause-loaded c =
    let shared = c.args.shared.now in
    let shape = shared.log.shape in
    let now = seen_of shared c.args.pass.now c.args.rest.now in
    let then = seen_of shared c.answers_seen.new.pass c.answers_seen.new.rest in
    let seen = seen_still shared c.args.pass.now c.answers_seen.new.pass c.args.rest.now c.answers_seen.new.rest c.answers_seen.ensures.walked in
    let finals = c.in_ok-finals.ensures.answers ∙ ap (λ (asks : List Ask). map (answer_on shape now) asks) c.asks.ensures.asks in
    let alerts = c.in_ok-alerts.ensures.alerts
    ∙ (ap (λ (ts : List Trigger). map (λ trigger. marks_over shape trigger (rows_in then)) ts) c.triggers.ensures.triggers
    ∙ ap (λ (es : List Entry). alerts_on shape shared.setup (rows_in es)) seen) in
    c.new-2.ensures
    ∙ (ap₂ (λ (answers : List Answer) (marks : List (List Fired)). record { finals = answers; alerts = marks; lives = c.new.result.items }) finals alerts
    ∙ ap (λ (lives : List Live). record (answered_on shape shared.setup now) { lives = lives }) c.new.ensures.items)
