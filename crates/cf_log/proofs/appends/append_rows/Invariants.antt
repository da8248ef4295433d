use Rattle.cf_append.specs.Paths.{Remembers}
use Rattle.cf_log.proofs.Writers.{Goes}
use Rattle.cf_log.proofs.appends.append_rows.Given as goal

abbrev pub invariant-loop-row : goal.invariant-loop-row
invariant-loop-row l =
    record { goes : Goes l.log l.rows l.fn.pass l.row-index l.pass; near : Remembers (l.log).shape (l.pass).view l.leaves }
