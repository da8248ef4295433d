use Rattle.cf_watch.proofs.PairRows.{rows_are_pair_steps}
use Rattle.cf_watch.proofs.laws.rows_are_kept_by_key.Goals as goal

pub returns : goal.returns
returns c = rows_are_pair_steps
