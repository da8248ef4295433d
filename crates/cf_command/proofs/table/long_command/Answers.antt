use Rattle.std.proofs.Common.{ap, ap₂, ◌∙◌}
use Rattle.std.proofs.lemmas.Result.{IfOk-weaker}
use Rattle.clap.specs.Words.{App, with_subcommand}
use Rattle.cf_command.specs.Table.{long_app}
use Rattle.cf_command.proofs.table.long_command.Goals as goal

pub returns : goal.returns
unfolding long_app
returns c = IfOk-weaker c.under.result _ _ (λ m e. e
    ∙ ap₂ with_subcommand c.bare_command.ensures (ap (λ (a : App). a.top) c.in_ok-long_run_command.ensures.rules)) c.under.ensures
