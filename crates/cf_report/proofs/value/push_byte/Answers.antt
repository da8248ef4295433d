use Rattle.std.proofs.Common.{rules, false}
use Rattle.std.proofs.lemmas.Fmt.{hex_byte}
use Rattle.cf_report.proofs.value.push_byte.Goals as goal

pub returns : goal.returns
returns c = search (rules, hex_byte false)
