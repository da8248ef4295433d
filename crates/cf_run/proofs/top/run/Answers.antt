use Rattle.std.proofs.Common.{◌≡◌, ◌⊎◌, Option, Some, IfSome, rules, subst, sym}
use Rattle.cf_command.specs.Call.{Call, call_said, texts, watch_by}
use Rattle.cf_command.specs.Call.Call.{watch}
use Rattle.cf_intake.specs.declared.refusal.Stop.TheVariants as stops
use Rattle.cf_run.specs.Answers.{IsDecided, RunAnswers, Yields}
use Rattle.cf_run.specs.Answers.RunAnswers.{stopped}
use Rattle.cf_run.specs.Due.{IsLawful}
use Rattle.cf_run.specs.declared.status.Status.{Status}
use Rattle.cf_run.specs.declared.status.Status.TheVariants.{Done}
use Rattle.cf_run.proofs.Answering.{keeps_same}
use Rattle.cf_run.proofs.Coming.{stops_unopened}
use Rattle.cf_run.proofs.Watching.{answers_as}
use Rattle.cf_run.proofs.top.run.Goals as goal

pub returns-in-Some-Watch-clause-written : goal.returns-in-Some-Watch-clause-written
returns-in-Some-Watch-clause-written g c =
    let is : (Some (watch (watch_by c.in-Some-Watch.command))) ≡ call_said (texts c.args.words.now) = search rules in
    answers_as (g.F.Shelf.files c.args.shelf.now) (Some (watch (watch_by c.in-Some-Watch.command))) (call_said (texts c.args.words.now)) c.watch.result
    c.unsealed-in-Some-Watch.result.status c.unsealed-in-Some-Watch.result.seals.items (g.K.Sink.held c.args.sink.now) (g.K.Sink.held c.watch.new.sink)
    (g.F.Shelf.rest c.args.shelf.now)
    (g.F.Shelf.rest c.watch.new.shelf) is c.unsealed-in-Some-Watch.ensures.status c.unsealed-in-Some-Watch.ensures.none c.watch.ensures.written

pub returns-in-Some-Watch-clause-decided : goal.returns-in-Some-Watch-clause-decided
returns-in-Some-Watch-clause-decided g c =
    let is : (Some (watch (watch_by c.in-Some-Watch.command))) ≡ call_said (texts c.args.words.now) = search rules in
    subst (λ (call : Option Call). IfSome (g.F.Shelf.files c.args.shelf.now) (λ files. IsDecided files call c.unsealed-in-Some-Watch.result.status)) is
    (subst (λ (s : Status). IfSome (g.F.Shelf.files c.args.shelf.now) (λ files. IsDecided files (Some (watch (watch_by c.in-Some-Watch.command))) s))
    (sym c.unsealed-in-Some-Watch.ensures.status) c.watch.ensures.decided)

pub returns-in-Some-Watch-clause-complete : goal.returns-in-Some-Watch-clause-complete
returns-in-Some-Watch-clause-complete g c =
    let is : (Some (watch (watch_by c.in-Some-Watch.command))) ≡ call_said (texts c.args.words.now) = search rules in
    subst (λ (call : Option Call). IfSome (g.F.Shelf.files c.args.shelf.now) (λ files. IsLawful (Some files) call
    → (c.unsealed-in-Some-Watch.result.status ≡ Done) ⊎ Yields c.unsealed-in-Some-Watch.result.status)) is
    (subst (λ (s : Status). IfSome (g.F.Shelf.files c.args.shelf.now) (λ files. IsLawful (Some files) (Some (watch (watch_by c.in-Some-Watch.command)))
    → (s ≡ Done) ⊎ Yields s))
    (sym c.unsealed-in-Some-Watch.ensures.status) c.watch.ensures.complete)

pub returns-in_default-clause-written : goal.returns-in_default-clause-written
returns-in_default-clause-written g c =
    let is = c.in-Ok.ensures.call in
    subst (λ (call : Option Call). RunAnswers (g.F.Shelf.files c.args.shelf.now) call c.report.result.status c.report.result.seals.items
    (g.K.Sink.held c.args.sink.now) (g.K.Sink.held c.report.new.sink) (g.F.Shelf.rest c.args.shelf.now) (g.F.Shelf.rest c.report.new.shelf))
    is c.report.ensures.written

pub returns-in_default-clause-decided : goal.returns-in_default-clause-decided
returns-in_default-clause-decided g c =
    let is = c.in-Ok.ensures.call in
    subst (λ (call : Option Call). IfSome (g.F.Shelf.files c.args.shelf.now) (λ files. IsDecided files call c.report.result.status))
    is c.report.ensures.decided

pub returns-in_default-clause-complete : goal.returns-in_default-clause-complete
returns-in_default-clause-complete g c =
    let is = c.in-Ok.ensures.call in
    subst (λ (call : Option Call). IfSome (g.F.Shelf.files c.args.shelf.now) (λ files. IsLawful (Some files) call
    → (c.report.result.status ≡ Done) ⊎ Yields c.report.result.status)) is c.report.ensures.complete

pub returns-in-Err-clause-written : goal.returns-in-Err-clause-written
returns-in-Err-clause-written g c =
    stopped stops.Memory c.unsealed.ensures.status c.unsealed.ensures.none
    (stops_unopened (g.F.Shelf.files c.args.shelf.now) (call_said (texts c.args.words.now)) (g.F.Shelf.rest c.args.shelf.now))
    (keeps_same (g.K.Sink.held c.args.sink.now))
