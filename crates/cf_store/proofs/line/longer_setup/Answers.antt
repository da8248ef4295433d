use Rattle.std.proofs.Common.{◌∙◌, Err, ap}
use Rattle.cf_store.proofs.Lined.{line_faulty, line_lawful}
use Rattle.cf_store.proofs.line.longer_setup.Goals as goal

pub returns-in-Ok-parse_setup : goal.returns-in-Ok-parse_setup
returns-in-Ok-parse_setup c =
    line_lawful c.args.text.now c.args.line.now c.deref.result.now c.in-Ok-parse_setup.setup c.parse_setup.result (c.deref.ensures.value ∙ c.in-Ok.ensures)
    c.parse_setup.ensures.found c.parse_setup.ensures.only c.in-Ok-parse_setup.is

pub returns-in-Err-Bad : goal.returns-in-Err-Bad
returns-in-Err-Bad c =
    line_faulty c.args.text.now c.args.line.now c.deref.result.now c.in-Err-Bad.line c.in-Err-Bad.code c.parse_setup.result
    (c.deref.ensures.value ∙ c.in-Ok.ensures) c.parse_setup.ensures.found c.parse_setup.ensures.only (c.in-Err-Bad.is ∙ ap Err c.in-Err-Bad.field-0-is)
