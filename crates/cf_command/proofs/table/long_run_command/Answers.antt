use Rattle.std.proofs.Common.{ap, ap₂, ◌∙◌}
use Rattle.std.proofs.lemmas.Result.{IfOk-weaker}
use Rattle.clap.specs.Words.{with_rule}
use Rattle.cf_command.specs.Table.{wide_app, truncatable_app}
use Rattle.cf_command.proofs.table.long_run_command.Goals as goal

pub returns-clause-rules : goal.returns-clause-rules
returns-clause-rules c = IfOk-weaker c.and-4.result _ _ (λ m e. e
    ∙ ap₂ with_rule (c.in_ok-command-5.ensures.rules
    ∙ ap truncatable_app (c.in_ok-command-4.ensures.rules
    ∙ ap wide_app (c.in_ok-command-3.ensures.rules
    ∙ ap₂ with_rule (c.in_ok-command-2.ensures.rules
    ∙ ap₂ with_rule (c.in_ok-command.ensures.rules
    ∙ ap₂ with_rule c.new-command.ensures.app c.needed_flag.ensures.rule)
    c.needed_option.ensures.rule)
    c.optional_option.ensures.rule)))
    c.own_words.ensures.rule) c.and-4.ensures.rules
