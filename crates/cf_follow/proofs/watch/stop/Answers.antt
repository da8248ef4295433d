use Rattle.cf_follow.proofs.Hearing.{stops_told, stops_untold}
use Rattle.cf_follow.proofs.watch.stop.Goals as goal

pub returns-in-Ok-clause-stopped : goal.returns-in-Ok-clause-stopped
returns-in-Ok-clause-stopped g c =
    stops_told c.args.rounds.now c.tell.new.rounds (g.K.Sink.held c.args.sink.now) (g.K.Sink.held c.tell.new.sink) c.in-Ok.field-0 c.in-Ok.ensures.told

pub returns-in-Err-clause-stopped : goal.returns-in-Err-clause-stopped
returns-in-Err-clause-stopped g c =
    stops_untold c.args.rounds.now c.tell.new.rounds (g.K.Sink.held c.args.sink.now) (g.K.Sink.held c.tell.new.sink) c.in-Err.ending c.in-Err.ensures.told
