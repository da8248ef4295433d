use Rattle.std.proofs.Common.{◌<◌, List, length, ap, arith}
use Rattle.cf_row.specs.declared.row.Entry.{Entry}
use Rattle.cf_plain.specs.Asks.{marks_over, rows_in}
use Rattle.cf_store.specs.Ends.{seen_of}
use Rattle.cf_store.proofs.Reported.{all_none, all_then, behind_still, mapped_more, seen_still}
use Rattle.cf_store.proofs.answers.alerts_seen.Goals as goal

pub returns-in_err-alerts-clause-walked : goal.returns-in_err-alerts-clause-walked
returns-in_err-alerts-clause-walked c = all_none c.args.pass.now c.args.rest.now

pub loop-trigger-init : goal.loop-trigger-init
loop-trigger-init c = record { walked = all_none c.args.pass.now c.args.rest.now; alerts = c.in_ok-alerts.ensures.items }

pub marks_seen-requires-clause-behind : goal.marks_seen-requires-clause-behind
marks_seen-requires-clause-behind c =
    behind_still c.args.shared.now c.args.pass.now c.loop-trigger.pass c.args.rest.now c.loop-trigger.rest c.requires.behind c.loop-trigger.invariant.walked

pub returns-in_err-marks_seen-clause-walked : goal.returns-in_err-marks_seen-clause-walked
returns-in_err-marks_seen-clause-walked c =
    all_then c.args.pass.now c.loop-trigger.pass c.marks_seen.new.pass c.args.rest.now c.loop-trigger.rest c.marks_seen.new.rest c.loop-trigger.invariant.walked
    c.marks_seen.ensures.walked

pub returns-in_err-push-clause-walked : goal.returns-in_err-push-clause-walked
returns-in_err-push-clause-walked c =
    all_then c.args.pass.now c.loop-trigger.pass c.marks_seen.new.pass c.args.rest.now c.loop-trigger.rest c.marks_seen.new.rest c.loop-trigger.invariant.walked
    c.marks_seen.ensures.walked

pub loop-trigger-preserved : goal.loop-trigger-preserved
loop-trigger-preserved c =
    let shared = c.args.shared.now in
    let xs = c.args.triggers.now in
    let k = c.loop-trigger.trigger-index in
    let now = seen_of shared c.args.pass.now c.args.rest.now in
    let then = seen_of shared c.loop-trigger.pass c.loop-trigger.rest in
    let seen = seen_still shared c.args.pass.now c.loop-trigger.pass c.args.rest.now c.loop-trigger.rest c.loop-trigger.invariant.walked in
    let test = c.loop-trigger-test.true in
    let low : k < length xs = omega (arith, test) in
    record {
      walked = all_then c.args.pass.now c.loop-trigger.pass c.marks_seen.new.pass c.args.rest.now c.loop-trigger.rest c.marks_seen.new.rest
          c.loop-trigger.invariant.walked c.marks_seen.ensures.walked;
      alerts = mapped_more (λ trigger. marks_over shared.log.shape trigger (rows_in now)) (λ trigger. marks_over shared.log.shape trigger (rows_in then))
          xs k _ c.in_ok-marks_seen.field-0 c.loop-trigger.alerts.items c.push.new.self.items low
          (λ trigger. ap (λ (es : List Entry). marks_over shared.log.shape trigger (rows_in es)) seen) c.loop-trigger.invariant.alerts
          c.in_ok-marks_seen.ensures.marks
          c.in_ok-push.ensures.items;
    }
