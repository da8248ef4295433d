use Rattle.std.proofs.Common.{ap, ap₂, ◌∙◌}
use Rattle.std.proofs.lemmas.Result.{IfOk-weaker}
use Rattle.clap.specs.Words.{app_of, with_rule}
use Rattle.cf_command.proofs.table.wide.Goals as goal

pub returns-clause-rules : goal.returns-clause-rules
returns-clause-rules c = IfOk-weaker c.and-2.result _ _ (λ m e. e
    ∙ ap₂ with_rule (c.in_ok-command.ensures.rules
    ∙ ap (with_rule (app_of c.args.command)) c.optional_option.ensures.rule)
    c.optional_option-2.ensures.rule) c.and-2.ensures.rules
