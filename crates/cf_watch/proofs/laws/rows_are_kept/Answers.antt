use Rattle.cf_watch.proofs.Totals.{rows_are_steps, totals_are}
use Rattle.cf_watch.proofs.laws.rows_are_kept.Goals as goal

pub returns : goal.returns
returns c = record { totals = totals_are; buckets = rows_are_steps }
