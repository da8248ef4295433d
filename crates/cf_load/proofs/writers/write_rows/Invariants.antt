use Rattle.cf_append.specs.Paths.{Remembers}
use Rattle.cf_load.proofs.Progress.{Goes}
use Rattle.cf_load.proofs.writers.write_rows.Given as goal

abbrev pub invariant-loop-row : goal.invariant-loop-row
invariant-loop-row g l =
    record { goes : Goes l.log l.first l.batch l.initial.pass l.number l.row-index l.pass; near : Remembers l.log.shape l.pass.view l.leaves }
