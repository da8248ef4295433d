use Rattle.std.proofs.Common.{inl}
use Rattle.cf_window.specs.Windows.{rows_in_all}
use Rattle.cf_follow.proofs.Going.{broken_now, concludes_never, ended_now, kind_sound, refuses_never, stopped_now}
use Rattle.cf_follow.proofs.end.end.Goals as goal

pub returns-in-Ok-clause-ended : goal.returns-in-Ok-clause-ended
returns-in-Ok-clause-ended g c = λ schema begun marks before now held last.
    let on = last.on in (
      ended_now schema begun marks c.args.rounds c.args.reads before last.mid held (g.K.Sink.held c.args.sink.now) on c.args.truncated now
          (g.K.Sink.held c.conclude.new.sink) c.in-Ok.cut c.conclude.result last.end last.sound
          (c.in-Ok.ensures on.bytes (rows_in_all on.reads) on.have) c.conclude.ensures.concluded,
      concludes_never c.args.rounds c.in-Ok.cut (g.K.Sink.held c.args.sink.now) (g.K.Sink.held c.conclude.new.sink) c.conclude.result
          c.conclude.ensures.concluded,
    )

pub returns-in-Err-Refused-clause-ended : goal.returns-in-Err-Refused-clause-ended
returns-in-Err-Refused-clause-ended g c = λ schema begun marks before now held last.
    let on = last.on in
    let found = rw c.in-Err-Refused.is at c.finish.ensures in
    let bad = rw c.in-Err-Refused.field-0-is at found on.bytes (rows_in_all on.reads) on.have in
    let refuses = c.refuse.ensures.refused in (
      broken_now schema begun marks c.args.rounds c.args.reads before last.mid held (g.K.Sink.held c.args.sink.now) on c.args.truncated now
          (g.K.Sink.held c.refuse.new.sink) c.in-Err-Refused.why c.refuse.result bad.0 bad.1 bad.2
          (inl (last.end, kind_sound schema c.args.reads.schema on.bytes on.kind last.sound, bad.3)) refuses,
      refuses_never c.args.rounds c.in-Err-Refused.why (g.K.Sink.held c.args.sink.now) (g.K.Sink.held c.refuse.new.sink)
          c.refuse.result refuses,
    )

pub returns-clause-ended : goal.returns-clause-ended
returns-clause-ended g c = λ schema begun marks before now held last.
    let on = last.on in
    let found = rw c.in-Err-Stopped.is at c.finish.ensures in
    let bad = rw c.in-Err-Stopped.field-0-is at found on.bytes (rows_in_all on.reads) on.have in
    stopped_now schema begun marks c.args.rounds c.args.reads before now held (g.K.Sink.held c.args.sink.now) last c.args.truncated c.in-Err-Stopped.stop bad
