use Rattle.std.proofs.Common.{◌≤◌, length}
use Rattle.cf_intake.specs.Parts.{rows_each}
use Rattle.cf_run.proofs.OneHost.{AreBelow}
use Rattle.cf_run.proofs.snapshot.is_some_full.Given as goal

abbrev pub invariant-loop-host : goal.invariant-loop-host
invariant-loop-host l = AreBelow (λ rows. length rows ≤ l.capacity) (rows_each l.hosts) l.host-index
