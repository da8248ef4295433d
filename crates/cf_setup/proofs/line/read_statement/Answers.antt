use Rattle.std.proofs.Common.{sym}
use Rattle.cf_setup.specs.Forms.{form_value}
use Rattle.cf_setup.proofs.FormLaws.{stated_before}
use Rattle.cf_setup.proofs.line.read_statement.Goals as goal

pub add_statement-requires-clause-stated : goal.add_statement-requires-clause-stated
add_statement-requires-clause-stated c =
    stated_before c.args.draft c.args.statement c.args.text.now (form_value c.in-Some.form) (sym c.in-Some.ensures.form) c.requires.place
