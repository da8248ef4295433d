use Rattle.std.proofs.Common.{sym, ◌∙◌}
use Rattle.cf_lines.proofs.Members.{all_low}
use Rattle.cf_lines.proofs.lines.is_name.Goals as goal

pub returns-then-word-most-clause-ascii : goal.returns-then-word-most-clause-ascii
returns-then-word-most-clause-ascii c = λ h. all_low c.args.word.now (sym c.are_all.ensures ∙ h)
