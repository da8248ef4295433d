use Rattle.std.proofs.Common.{ap, ap₂, ◌∙◌}
use Rattle.std.proofs.lemmas.Result.{IfOk-weaker}
use Rattle.clap.specs.Words.{with_rule}
use Rattle.cf_command.specs.Table.{truncatable_app}
use Rattle.cf_command.proofs.table.dump_command.Goals as goal

pub returns-clause-rules : goal.returns-clause-rules
returns-clause-rules c = IfOk-weaker c.and-2.result _ _ (λ m e. e
    ∙ ap₂ with_rule (c.in_ok-command-2.ensures.rules
    ∙ ap truncatable_app (c.in_ok-command.ensures.rules
    ∙ ap₂ with_rule c.new-command.ensures.app c.optional_option.ensures.rule))
    c.own_word.ensures.rule) c.and-2.ensures.rules
