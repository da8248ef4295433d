use Rattle.std.proofs.Common.{◌∙◌, [], Some, Err, refl, sym, subst}
use Rattle.cf_command.specs.Call.{watch_by}
use Rattle.cf_command.specs.Call.Call.{watch}
use Rattle.cf_intake.specs.declared.refusal.Halt.{Halt}
use Rattle.cf_run.specs.Answers.RunAnswers.{stopped}
use Rattle.cf_run.specs.Parts.{WatchBegins}
use Rattle.cf_run.specs.Watched.{begun_for}
use Rattle.cf_run.proofs.Answering.{by_stop, complete_free, decided_free, keeps_same, stop_yields}
use Rattle.cf_run.proofs.Watching.{ending_read, ending_unwritten, followed_by, followed_complete, followed_decided, followed_written, refused_by, refused_complete, refused_decided, refused_read, refused_written, rose_since}
use Rattle.cf_run.proofs.watched.watch.Goals as goal

pub follow-requires-clause-packets : goal.follow-requires-clause-packets
follow-requires-clause-packets g c = c.in-Ok.ensures.begins.packets

pub follow-requires-clause-ready : goal.follow-requires-clause-ready
follow-requires-clause-ready g c = (begun_for (watch_by c.args.command.now) c.in-Ok.ensures.begins.setup, c.in-Ok.ensures.begins.ready)

pub returns-in-Ok-clause-written : goal.returns-in-Ok-clause-written
returns-in-Ok-clause-written g c =
    followed_written (watch_by c.args.command.now) (g.F.Shelf.rest c.begin.new.shelf) (g.F.Shelf.rest c.follow.new.shelf)
    (g.F.Shelf.moved c.begin.new.shelf) (g.F.Shelf.moved c.follow.new.shelf) (g.K.Sink.held c.args.sink.now)
    (g.K.Sink.held c.follow.new.sink)
    c.in-Ok.watching c.in-Ok.ensures.begins.setup c.follow.result c.from.result c.from.ensures
    (c.follow.ensures.followed (begun_for (watch_by c.args.command.now) c.in-Ok.ensures.begins.setup) c.in-Ok.ensures.begins.ready)
    (g.F.Shelf.files c.args.shelf.now) (g.F.Shelf.rest c.args.shelf.now) c.in-Ok.ensures.begins refl

pub returns-in-Ok-clause-by_command : goal.returns-in-Ok-clause-by_command
returns-in-Ok-clause-by_command g c =
    followed_by (watch_by c.args.command.now) (g.F.Shelf.rest c.begin.new.shelf) (g.F.Shelf.rest c.follow.new.shelf)
    (g.F.Shelf.moved c.begin.new.shelf) (g.F.Shelf.moved c.follow.new.shelf) (g.K.Sink.held c.args.sink.now)
    (g.K.Sink.held c.follow.new.sink)
    c.in-Ok.watching c.in-Ok.ensures.begins.setup c.follow.result c.from.result c.from.ensures
    (c.follow.ensures.followed (begun_for (watch_by c.args.command.now) c.in-Ok.ensures.begins.setup) c.in-Ok.ensures.begins.ready)

pub returns-in-Ok-clause-decided : goal.returns-in-Ok-clause-decided
returns-in-Ok-clause-decided g c =
    followed_decided (watch_by c.args.command.now) (g.F.Shelf.rest c.begin.new.shelf) (g.F.Shelf.rest c.follow.new.shelf)
    (g.F.Shelf.moved c.begin.new.shelf) (g.F.Shelf.moved c.follow.new.shelf) (g.K.Sink.held c.args.sink.now)
    (g.K.Sink.held c.follow.new.sink)
    c.in-Ok.watching c.in-Ok.ensures.begins.setup c.follow.result c.from.result c.from.ensures
    (c.follow.ensures.followed (begun_for (watch_by c.args.command.now) c.in-Ok.ensures.begins.setup) c.in-Ok.ensures.begins.ready)
    (g.F.Shelf.files c.args.shelf.now) c.in-Ok.ensures.begins

pub returns-in-Ok-clause-complete : goal.returns-in-Ok-clause-complete
returns-in-Ok-clause-complete g c =
    followed_complete (watch_by c.args.command.now) (g.F.Shelf.rest c.begin.new.shelf) (g.F.Shelf.rest c.follow.new.shelf)
    (g.F.Shelf.moved c.begin.new.shelf) (g.F.Shelf.moved c.follow.new.shelf) (g.K.Sink.held c.args.sink.now)
    (g.K.Sink.held c.follow.new.sink)
    c.in-Ok.watching c.in-Ok.ensures.begins.setup c.follow.result c.from.result c.from.ensures
    (c.follow.ensures.followed (begun_for (watch_by c.args.command.now) c.in-Ok.ensures.begins.setup) c.in-Ok.ensures.begins.ready)
    (g.F.Shelf.files c.args.shelf.now) c.in-Ok.ensures.begins refl
    (c.follow.ensures.complete (begun_for (watch_by c.args.command.now) c.in-Ok.ensures.begins.setup) c.in-Ok.ensures.begins.ready)

pub returns-in-Ok-clause-read_fault : goal.returns-in-Ok-clause-read_fault
returns-in-Ok-clause-read_fault g c = λ is.
    rose_since _ _ _ c.in-Ok.ensures.cause.later (c.follow.ensures.read_fault (ending_read c.follow.result (sym c.from.ensures ∙ is)))

pub returns-in-Ok-clause-write_fault : goal.returns-in-Ok-clause-write_fault
returns-in-Ok-clause-write_fault g c = λ is. c.follow.ensures.write_fault (ending_unwritten c.follow.result (sym c.from.ensures ∙ is))

pub returns-in-Err-Refused-clause-written : goal.returns-in-Err-Refused-clause-written
returns-in-Err-Refused-clause-written g c =
    refused_written (g.F.Shelf.files c.args.shelf.now) (watch_by c.args.command.now) (g.F.Shelf.rest c.args.shelf.now) (g.F.Shelf.rest c.begin.new.shelf)
    (g.K.Sink.held c.args.sink.now) (g.K.Sink.held c.refuse.new.sink) c.in-Err-Refused.why c.refuse.result
    (subst (λ (h : Halt). WatchBegins (g.F.Shelf.files c.args.shelf.now) (watch_by c.args.command.now) (g.F.Shelf.rest c.args.shelf.now)
    (g.F.Shelf.rest c.begin.new.shelf) (Err h)) c.in-Err-Refused.field-0-is
    c.in-Err-Refused.ensures.begins)
    c.refuse.ensures.refuses

pub returns-in-Err-Refused-clause-by_command : goal.returns-in-Err-Refused-clause-by_command
returns-in-Err-Refused-clause-by_command g c =
    refused_by (g.F.Shelf.files c.args.shelf.now) (watch_by c.args.command.now) (g.F.Shelf.rest c.args.shelf.now) (g.F.Shelf.rest c.begin.new.shelf)
    (g.K.Sink.held c.args.sink.now) (g.K.Sink.held c.refuse.new.sink) c.in-Err-Refused.why c.refuse.result
    (subst (λ (h : Halt). WatchBegins (g.F.Shelf.files c.args.shelf.now) (watch_by c.args.command.now) (g.F.Shelf.rest c.args.shelf.now)
    (g.F.Shelf.rest c.begin.new.shelf) (Err h)) c.in-Err-Refused.field-0-is
    c.in-Err-Refused.ensures.begins)
    c.requires c.refuse.ensures.refuses

pub returns-in-Err-Refused-clause-decided : goal.returns-in-Err-Refused-clause-decided
returns-in-Err-Refused-clause-decided g c =
    refused_decided (g.F.Shelf.files c.args.shelf.now) (watch_by c.args.command.now) (g.F.Shelf.rest c.args.shelf.now) (g.F.Shelf.rest c.begin.new.shelf)
    (g.K.Sink.held c.args.sink.now) (g.K.Sink.held c.refuse.new.sink) c.in-Err-Refused.why c.refuse.result
    (subst (λ (h : Halt). WatchBegins (g.F.Shelf.files c.args.shelf.now) (watch_by c.args.command.now) (g.F.Shelf.rest c.args.shelf.now)
    (g.F.Shelf.rest c.begin.new.shelf) (Err h)) c.in-Err-Refused.field-0-is
    c.in-Err-Refused.ensures.begins)
    c.refuse.ensures.refuses

pub returns-in-Err-Refused-clause-complete : goal.returns-in-Err-Refused-clause-complete
returns-in-Err-Refused-clause-complete g c =
    refused_complete (g.F.Shelf.files c.args.shelf.now) (watch_by c.args.command.now) (g.F.Shelf.rest c.args.shelf.now) (g.F.Shelf.rest c.begin.new.shelf)
    (g.K.Sink.held c.args.sink.now) (g.K.Sink.held c.refuse.new.sink) c.in-Err-Refused.why c.refuse.result
    (subst (λ (h : Halt). WatchBegins (g.F.Shelf.files c.args.shelf.now) (watch_by c.args.command.now) (g.F.Shelf.rest c.args.shelf.now)
    (g.F.Shelf.rest c.begin.new.shelf) (Err h)) c.in-Err-Refused.field-0-is
    c.in-Err-Refused.ensures.begins)
    c.refuse.ensures.refuses

pub returns-in-Err-Refused-clause-read_fault : goal.returns-in-Err-Refused-clause-read_fault
returns-in-Err-Refused-clause-read_fault g c = λ is.
    absurd (refused_read (g.F.Shelf.files c.args.shelf.now) (watch_by c.args.command.now) (g.F.Shelf.rest c.args.shelf.now) (g.F.Shelf.rest c.begin.new.shelf)
    (g.K.Sink.held c.args.sink.now) (g.K.Sink.held c.refuse.new.sink) c.in-Err-Refused.why c.refuse.result
    (subst (λ (h : Halt). WatchBegins (g.F.Shelf.files c.args.shelf.now) (watch_by c.args.command.now) (g.F.Shelf.rest c.args.shelf.now)
    (g.F.Shelf.rest c.begin.new.shelf) (Err h)) c.in-Err-Refused.field-0-is
    c.in-Err-Refused.ensures.begins)
    c.refuse.ensures.refuses is)

pub returns-in-Err-Stopped-clause-written : goal.returns-in-Err-Stopped-clause-written
returns-in-Err-Stopped-clause-written g c =
    stopped c.in-Err-Stopped.stop c.from-in-Err-Stopped.ensures refl
    (subst (λ (h : Halt). WatchBegins (g.F.Shelf.files c.args.shelf.now) (watch_by c.args.command.now) (g.F.Shelf.rest c.args.shelf.now)
    (g.F.Shelf.rest c.begin.new.shelf) (Err h)) c.in-Err-Stopped.field-0-is
    c.in-Err-Stopped.ensures.begins)
    (keeps_same (g.K.Sink.held c.args.sink.now))

pub returns-in-Err-Stopped-clause-by_command : goal.returns-in-Err-Stopped-clause-by_command
returns-in-Err-Stopped-clause-by_command g c =
    by_stop (g.F.Shelf.files c.args.shelf.now) (Some (watch (watch_by c.args.command.now))) (g.F.Shelf.rest c.args.shelf.now)
    (g.F.Shelf.rest c.begin.new.shelf) c.from-in-Err-Stopped.result [] c.in-Err-Stopped.stop
    c.from-in-Err-Stopped.ensures refl
    (subst (λ (h : Halt). WatchBegins (g.F.Shelf.files c.args.shelf.now) (watch_by c.args.command.now) (g.F.Shelf.rest c.args.shelf.now)
    (g.F.Shelf.rest c.begin.new.shelf) (Err h)) c.in-Err-Stopped.field-0-is
    c.in-Err-Stopped.ensures.begins)

pub returns-in-Err-Stopped-clause-decided : goal.returns-in-Err-Stopped-clause-decided
returns-in-Err-Stopped-clause-decided g c = decided_free _ _ _ (stop_yields _ c.in-Err-Stopped.stop c.from-in-Err-Stopped.ensures)

pub returns-in-Err-Stopped-clause-complete : goal.returns-in-Err-Stopped-clause-complete
returns-in-Err-Stopped-clause-complete g c = complete_free _ _ _ (stop_yields _ c.in-Err-Stopped.stop c.from-in-Err-Stopped.ensures)
