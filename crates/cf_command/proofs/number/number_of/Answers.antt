use Rattle.std.proofs.Common.{◌≡◌, ◌∙◌}
use Rattle.std.proofs.lemmas.Fmt.{parse-decimal}
use Rattle.cf_command.proofs.Numbers.{written_same}
use Rattle.cf_command.proofs.number.number_of.Goals as goal

pub returns-in_default : goal.returns-in_default
returns-in_default c = λ n small is. let e = parse-decimal 64 n c.args.text.now c.parse.result small small is c.parse.ensures.value.0 in cc (e, c.in_default.is)

pub returns : goal.returns
returns c = λ n small is.
    let e = parse-decimal 64 n c.args.text.now c.parse.result small small is c.parse.ensures.value.0 in
    let same : c.as_str.result.now ≡ c.args.text.now = c.as_str.ensures.value
    ∙ written_same c.args.text.now _ c.parse.result c.in-Ok.number n c.in-Ok.is e c.in_ok-written.ensures.ok is in
    let yes = c.is_same.ensures.1 same in cc (yes, c.if-is_same.false)
