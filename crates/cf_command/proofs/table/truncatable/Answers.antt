use Rattle.std.proofs.Common.{ap, ◌∙◌}
use Rattle.std.proofs.lemmas.Result.{IfOk-weaker}
use Rattle.clap.specs.Words.{app_of, with_rule}
use Rattle.cf_command.proofs.table.truncatable.Goals as goal

pub returns-clause-rules : goal.returns-clause-rules
returns-clause-rules c = IfOk-weaker c.and.result _ _ (λ m e. e ∙ ap (with_rule (app_of c.args.command)) c.bare_option.ensures.rule) c.and.ensures.rules
