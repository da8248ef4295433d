use Rattle.std.proofs.Common.{inl, inr, ◌∙◌}
use Rattle.cf_command.specs.Call.{call_by}
use Rattle.std.specs.Option.{option_map}
use Rattle.cf_run.specs.Answers.RunAnswers.{wrote, cut, stopped}
use Rattle.cf_run.specs.Parts.{reply_status, reply_text, reply_seals}
use Rattle.cf_run.proofs.Answering.{decided_if, complete_if, decided_free, complete_free, stop_yields, by_due, by_cut, by_stop, words_text, words_call, keeps_same, due_as, never_yields, reply_unsealed, sized_by}
use Rattle.cf_run.proofs.top.report.Goals as goal

pub returns-in-Err-clause-written : goal.returns-in-Err-clause-written
returns-in-Err-clause-written g c =
    stopped c.in-Err.stop (c.unsealed.ensures.status ∙ c.from.ensures) c.unsealed.ensures.none c.in-Err.ensures.prepared
    (keeps_same (g.K.Sink.held c.args.sink.now))

pub returns-in-Err-clause-by_command : goal.returns-in-Err-clause-by_command
returns-in-Err-clause-by_command g c =
    by_stop (g.F.Shelf.files c.args.shelf.now) (option_map call_by c.args.command) (g.F.Shelf.rest c.args.shelf.now)
    (g.F.Shelf.rest c.prepare.new.shelf) c.unsealed.result.status c.unsealed.result.seals.items c.in-Err.stop
    (c.unsealed.ensures.status ∙ c.from.ensures) c.unsealed.ensures.none c.in-Err.ensures.prepared

pub returns-in-Err-clause-decided : goal.returns-in-Err-clause-decided
returns-in-Err-clause-decided g c = decided_free _ _ _ (stop_yields _ c.in-Err.stop (c.unsealed.ensures.status ∙ c.from.ensures))

pub returns-in-Err-clause-complete : goal.returns-in-Err-clause-complete
returns-in-Err-clause-complete g c = complete_free _ _ _ (stop_yields _ c.in-Err.stop (c.unsealed.ensures.status ∙ c.from.ensures))

pub returns-in-Ok-write_all-clause-written : goal.returns-in-Ok-write_all-clause-written
returns-in-Ok-write_all-clause-written g c =
    wrote (reply_text c.in-Ok.reply)
    (due_as (g.F.Shelf.files c.args.shelf.now) (option_map call_by c.args.command) (g.F.Shelf.rest c.args.shelf.now) (g.F.Shelf.rest c.prepare.new.shelf)
    (reply_status c.in-Ok.reply) c.status.result (reply_text c.in-Ok.reply)
    (reply_seals c.in-Ok.reply) c.into_seals.result.items c.in-Ok.ensures.prepared c.status.ensures c.into_seals.ensures)
    (rw c.text.ensures at c.in-Ok-write_all.ensures.ok)

pub returns-in-Ok-write_all-clause-by_command : goal.returns-in-Ok-write_all-clause-by_command
returns-in-Ok-write_all-clause-by_command g c =
    by_due (g.F.Shelf.files c.args.shelf.now) (g.F.Shelf.rest c.args.shelf.now) (g.F.Shelf.rest c.prepare.new.shelf) c.status.result
    (reply_text c.in-Ok.reply) c.into_seals.result.items (option_map call_by c.args.command) (sized_by c.args.command c.requires.range)
    (due_as (g.F.Shelf.files c.args.shelf.now) (option_map call_by c.args.command) (g.F.Shelf.rest c.args.shelf.now) (g.F.Shelf.rest c.prepare.new.shelf)
    (reply_status c.in-Ok.reply) c.status.result (reply_text c.in-Ok.reply)
    (reply_seals c.in-Ok.reply) c.into_seals.result.items c.in-Ok.ensures.prepared c.status.ensures c.into_seals.ensures)

pub returns-in-Ok-write_all-clause-decided : goal.returns-in-Ok-write_all-clause-decided
returns-in-Ok-write_all-clause-decided g c =
    decided_if (g.F.Shelf.files c.args.shelf.now) (option_map call_by c.args.command) (g.F.Shelf.rest c.args.shelf.now)
    (g.F.Shelf.rest c.prepare.new.shelf) c.status.result (reply_text c.in-Ok.reply) c.into_seals.result.items
    (due_as (g.F.Shelf.files c.args.shelf.now) (option_map call_by c.args.command) (g.F.Shelf.rest c.args.shelf.now) (g.F.Shelf.rest c.prepare.new.shelf)
    (reply_status c.in-Ok.reply) c.status.result (reply_text c.in-Ok.reply)
    (reply_seals c.in-Ok.reply) c.into_seals.result.items c.in-Ok.ensures.prepared c.status.ensures c.into_seals.ensures)

pub returns-in-Ok-write_all-clause-complete : goal.returns-in-Ok-write_all-clause-complete
returns-in-Ok-write_all-clause-complete g c =
    complete_if (g.F.Shelf.files c.args.shelf.now) (option_map call_by c.args.command) (g.F.Shelf.rest c.args.shelf.now)
    (g.F.Shelf.rest c.prepare.new.shelf) c.status.result (reply_text c.in-Ok.reply) c.into_seals.result.items
    (due_as (g.F.Shelf.files c.args.shelf.now) (option_map call_by c.args.command) (g.F.Shelf.rest c.args.shelf.now) (g.F.Shelf.rest c.prepare.new.shelf)
    (reply_status c.in-Ok.reply) c.status.result (reply_text c.in-Ok.reply)
    (reply_seals c.in-Ok.reply) c.into_seals.result.items c.in-Ok.ensures.prepared c.status.ensures c.into_seals.ensures)

pub returns-in-Ok-write_all-clause-words : goal.returns-in-Ok-write_all-clause-words
returns-in-Ok-write_all-clause-words g c = λ is.
    let due = (due_as (g.F.Shelf.files c.args.shelf.now) (option_map call_by c.args.command) (g.F.Shelf.rest c.args.shelf.now)
    (g.F.Shelf.rest c.prepare.new.shelf) (reply_status c.in-Ok.reply) c.status.result (reply_text c.in-Ok.reply)
    (reply_seals c.in-Ok.reply) c.into_seals.result.items c.in-Ok.ensures.prepared c.status.ensures c.into_seals.ensures) in
    let none = words_call (g.F.Shelf.files c.args.shelf.now) (option_map call_by c.args.command) (g.F.Shelf.rest c.args.shelf.now)
    (g.F.Shelf.rest c.prepare.new.shelf) c.status.result (reply_text c.in-Ok.reply) c.into_seals.result.items
    (sized_by c.args.command c.requires.range) due is in (
      none,
      rw (
        c.text.ensures,
        words_text (g.F.Shelf.files c.args.shelf.now) (option_map call_by c.args.command) (g.F.Shelf.rest c.args.shelf.now)
            (g.F.Shelf.rest c.prepare.new.shelf) c.status.result (reply_text c.in-Ok.reply) c.into_seals.result.items due none,
      ) at c.in-Ok-write_all.ensures.ok,
    )

pub returns-in-Ok-write_all-clause-no_seals : goal.returns-in-Ok-write_all-clause-no_seals
returns-in-Ok-write_all-clause-no_seals g c = reply_unsealed c.in-Ok.reply c.status.result c.into_seals.result.items c.status.ensures c.into_seals.ensures

pub returns-in-Ok-write_all-clause-no_words_front : goal.returns-in-Ok-write_all-clause-no_words_front
returns-in-Ok-write_all-clause-no_words_front g c = λ none is. absurd (never_yields c.in-Ok.reply c.status.result c.status.ensures (inr (inr is)))

pub returns-in-Ok-write_all-clause-no_memory_no_write : goal.returns-in-Ok-write_all-clause-no_memory_no_write
returns-in-Ok-write_all-clause-no_memory_no_write g c = λ is. absurd (never_yields c.in-Ok.reply c.status.result c.status.ensures (inl is))

pub returns-in-Ok-write_all-clause-no_read_no_write : goal.returns-in-Ok-write_all-clause-no_read_no_write
returns-in-Ok-write_all-clause-no_read_no_write g c = λ is. absurd (never_yields c.in-Ok.reply c.status.result c.status.ensures (inr (inl is)))

pub returns-in-Ok-write_all-clause-read_fault : goal.returns-in-Ok-write_all-clause-read_fault
returns-in-Ok-write_all-clause-read_fault g c = λ is. absurd (never_yields c.in-Ok.reply c.status.result c.status.ensures (inr (inl is)))

pub returns-in-Ok-write_all-clause-write_fault : goal.returns-in-Ok-write_all-clause-write_fault
returns-in-Ok-write_all-clause-write_fault g c = λ is. absurd (never_yields c.in-Ok.reply c.status.result c.status.ensures (inr (inr is)))

pub returns-in-Err-write_all-clause-written : goal.returns-in-Err-write_all-clause-written
returns-in-Err-write_all-clause-written g c =
    cut (reply_status c.in-Ok.reply) (reply_text c.in-Ok.reply)
    (reply_seals c.in-Ok.reply) c.unsealed-in-Err-write_all.ensures.status c.unsealed-in-Err-write_all.ensures.none c.in-Ok.ensures.prepared
    (rw c.text.ensures at c.in-Err-write_all.ensures.err)

pub returns-in-Err-write_all-clause-by_command : goal.returns-in-Err-write_all-clause-by_command
returns-in-Err-write_all-clause-by_command g c =
    by_cut (option_map call_by c.args.command) _ _ c.unsealed-in-Err-write_all.ensures.status c.unsealed-in-Err-write_all.ensures.none

pub returns-in-Err-write_all-clause-decided : goal.returns-in-Err-write_all-clause-decided
returns-in-Err-write_all-clause-decided g c = decided_free _ _ _ (inr (inr c.unsealed-in-Err-write_all.ensures.status))

pub returns-in-Err-write_all-clause-complete : goal.returns-in-Err-write_all-clause-complete
returns-in-Err-write_all-clause-complete g c = complete_free _ _ _ (inr (inr c.unsealed-in-Err-write_all.ensures.status))

pub returns-in-Err-write_all-clause-no_words_front : goal.returns-in-Err-write_all-clause-no_words_front
returns-in-Err-write_all-clause-no_words_front g c =
    λ none is. rw (
      c.text.ensures,
      words_text (g.F.Shelf.files c.args.shelf.now) (option_map call_by c.args.command) (g.F.Shelf.rest c.args.shelf.now) (g.F.Shelf.rest c.prepare.new.shelf)
          (reply_status c.in-Ok.reply) (reply_text c.in-Ok.reply) (reply_seals c.in-Ok.reply) c.in-Ok.ensures.prepared none,
    ) at c.in-Err-write_all.ensures.err
