use Rattle.cf_follow.proofs.Hearing.{hears_all, hears_ends, hears_part}
use Rattle.cf_follow.proofs.said.hear.Goals as goal

pub returns-in-Ok-None-clause-heard : goal.returns-in-Ok-None-clause-heard
returns-in-Ok-None-clause-heard g c =
    let found = rw c.in-Ok-None.is at c.take_rows.ensures.gone in
    let gone = rw c.in-Ok-None.field-0-is at found in
    hears_all c.args.rounds.now c.take_rows.new.rounds c.args.rows.now (g.K.Sink.held c.args.sink.now) (g.K.Sink.held c.take_rows.new.sink)
    c.take_rows.ensures.set gone c.tell.new.rounds (g.K.Sink.held c.tell.new.sink) c.tell.result c.tell.ensures.told

pub returns-in-Ok-Some-clause-heard : goal.returns-in-Ok-Some-clause-heard
returns-in-Ok-Some-clause-heard g c =
    let found = rw c.in-Ok-Some.is at c.take_rows.ensures.gone in
    let part = rw c.in-Ok-Some.field-0-is at found in
    hears_part c.args.rounds.now c.take_rows.new.rounds c.args.rows.now (g.K.Sink.held c.args.sink.now) (g.K.Sink.held c.take_rows.new.sink)
    c.take_rows.ensures.set c.in-Ok-Some.why part c.refuse.new.rounds (g.K.Sink.held c.refuse.new.sink) c.refuse.result c.refuse.ensures.refused

pub returns-in-Err-clause-heard : goal.returns-in-Err-clause-heard
returns-in-Err-clause-heard g c =
    hears_ends c.args.rounds.now c.take_rows.new.rounds c.args.rows.now (g.K.Sink.held c.args.sink.now) (g.K.Sink.held c.take_rows.new.sink)
    c.take_rows.ensures.set c.take_rows.new.rounds c.in-Err.ending c.in-Err.ensures.gone
