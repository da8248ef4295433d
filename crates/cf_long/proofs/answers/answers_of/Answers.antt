use Rattle.std.proofs.Common.{◌≡◌, ◌∙◌, List, length, map, ap, ap₂, arith, rules, length-append}
use Rattle.cf_fold.specs.declared.trigger.Trigger.{Trigger}
use Rattle.cf_plain.specs.Asks.{eval_rows}
use Rattle.cf_plain.specs.declared.answer.Body.{Body}
use Rattle.cf_plain.specs.declared.ask.Ask.{Ask}
use Rattle.cf_plain.specs.declared.ask.Ask.TheVariants as asks_are
use Rattle.cf_plain.specs.declared.finding.Finding.{Finding}
use Rattle.cf_report.specs.Report.{marks_of}
use Rattle.cf_load.specs.Planned.{asks_of}
use Rattle.cf_long.specs.Found.{body_of_each}
use Rattle.cf_long.proofs.Found.{back, each_long, front, marks_told, told_each}
use Rattle.cf_long.proofs.answers.answers_of.Goals as goal

pub split_off-requires : goal.split_off-requires
split_off-requires c =
    let plan = c.args.plan.now in
    let len : c.len.result ≡ length plan.asks.items = search rules in
    let asks_are_of = c.in_ok-asks.ensures in
    let bodies = c.in_ok-finals.ensures in
    let size : length c.in_ok-finals.finals.items ≡ length (asks_of plan) =
    ap (λ (bs : List Body). length bs) (bodies ∙ ap (λ (qs : List Ask). body_of_each qs c.args.found.items) asks_are_of)
    ∙ each_long (asks_of plan) c.args.found.items c.requires.each in
    let sum = length-append plan.asks.items (map (λ (t : Trigger). asks_are.Fired t) plan.triggers.items) in
    omega (arith, len, size, sum)

pub returns : goal.returns
returns c shape rows count is =
    let plan = c.args.plan.now in
    let len : c.len.result ≡ length plan.asks.items = search rules in
    let f : Ask → Body = λ ask. eval_rows shape ask rows in
    let all : c.in_ok-finals.finals.items ≡ map f (asks_of plan) =
    c.in_ok-finals.ensures
    ∙ (ap₂ (λ (qs : List Ask) (fs : List Finding). body_of_each qs fs) c.in_ok-asks.ensures is ∙ told_each shape rows rows (asks_of plan)) in
    record {
      count = count;
      finals = c.in_ok-fired.ensures.items ∙ front f plan.asks.items plan.triggers.items c.in_ok-finals.finals.items c.len.result all len;
      alerts = c.in_ok-alerts.ensures
          ∙ (ap (λ (bs : List Body). map marks_of bs)
          (c.in_ok-fired.ensures.tail ∙ back f plan.asks.items plan.triggers.items c.in_ok-finals.finals.items c.len.result all len)
          ∙ marks_told shape rows rows plan.triggers.items);
    }
