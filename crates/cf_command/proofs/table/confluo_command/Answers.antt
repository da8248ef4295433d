use Rattle.std.proofs.Common.{ap, ap₂, ◌∙◌}
use Rattle.std.proofs.lemmas.Result.{IfOk-weaker}
use Rattle.clap.specs.Words.{App, with_subcommand}
use Rattle.cf_command.specs.Table.{confluo_app}
use Rattle.cf_command.proofs.table.confluo_command.Goals as goal

pub returns : goal.returns
unfolding confluo_app
returns c = IfOk-weaker c.under-5.result _ _ (λ m e. e
    ∙ ap₂ with_subcommand (c.in_ok-command-4.ensures
    ∙ ap₂ with_subcommand (c.in_ok-command-3.ensures
    ∙ ap₂ with_subcommand (c.in_ok-command-2.ensures
    ∙ ap₂ with_subcommand (c.in_ok-command.ensures
    ∙ ap₂ with_subcommand c.bare_command.ensures
    (ap (λ (a : App). a.top) c.in_ok-run_command.ensures.rules))
    (ap (λ (a : App). a.top) c.in_ok-synth_command.ensures.rules))
    (ap (λ (a : App). a.top) c.in_ok-dump_command.ensures.rules))
    (ap (λ (a : App). a.top) c.in_ok-snapshot_command.ensures.rules))
    (ap (λ (a : App). a.top) c.in_ok-watch_command.ensures.rules)) c.under-5.ensures
