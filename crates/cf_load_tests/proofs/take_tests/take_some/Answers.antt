use Rattle.std.proofs.Common.{◌++◌}
use Rattle.std.proofs.lemmas.Result.{IfOk-weaker}
use Rattle.cf_load_tests.proofs.take_tests.take_some.Goals as goal

pub returns : goal.returns
returns g c =
    let had = c.requires.filled in record {
      filled = IfOk-weaker c.take_rows.result _ _ (λ _ fills. (had.0 ++ c.in_ok-rows.rows.items, fills had.0 had.1)) c.take_rows.ensures.filled;
    }
