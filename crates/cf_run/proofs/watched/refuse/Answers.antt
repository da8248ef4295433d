use Rattle.std.proofs.Common.{refl, inl, inr}
use Rattle.cf_run.proofs.Answering.{keeps_same}
use Rattle.cf_run.proofs.watched.refuse.Goals as goal

pub returns-in-Err-clause-refuses : goal.returns-in-Err-clause-refuses
returns-in-Err-clause-refuses g c = inr (inr (refl, keeps_same (g.K.Sink.held c.args.sink.now)))

pub returns-in-Ok-write_all-clause-refuses : goal.returns-in-Ok-write_all-clause-refuses
returns-in-Ok-write_all-clause-refuses g c = inl (c.from.ensures, rw (c.as_bytes.ensures.value, c.in-Ok.ensures) at c.in-Ok-write_all.ensures.ok)
