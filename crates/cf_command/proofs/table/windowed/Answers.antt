use Rattle.std.proofs.Common.{ap, ◌∙◌}
use Rattle.std.proofs.lemmas.Result.{IfOk-weaker}
use Rattle.clap.specs.Words.{app_of, with_rule}
use Rattle.cf_command.specs.Table.{wide_app}
use Rattle.cf_command.proofs.table.windowed.Goals as goal

pub returns-clause-rules : goal.returns-clause-rules
returns-clause-rules c = IfOk-weaker c.wide.result _ _ (λ m e. e
    ∙ ap wide_app (c.in_ok-command.ensures.rules
    ∙ ap (with_rule (app_of c.args.command)) c.optional_option.ensures.rule)) c.wide.ensures.rules
