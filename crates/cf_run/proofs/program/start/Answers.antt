use Rattle.std.proofs.Common.{inl}
use Rattle.cf_run.proofs.program.start.Goals as goal

pub returns-in-Ok : goal.returns-in-Ok
returns-in-Ok g c = inl c.in-Ok.ensures
