use Rattle.std.proofs.Common.{sym, arith, ◌∙◌}
use Rattle.cf_command.proofs.Numbers.{number_found, no_number, decimal_is_one}
use Rattle.cf_command.proofs.number.number_between.Goals as goal

pub returns-in_default-clause-number : goal.returns-in_default-clause-number
returns-in_default-clause-number c =
    let none = rw c.in_default.is at c.in_ok-number.ensures in
    no_number c.args.low c.args.high c.args.text.now (omega (arith, c.ranges.high.fits)) (λ n small is least most. none n small is)

pub returns-then-number-low-clause-number : goal.returns-then-number-low-clause-number
returns-then-number-low-clause-number c =
    let is = rw c.in-Some.is at c.in_ok-number.ensures in
    no_number c.args.low c.args.high c.args.text.now (omega (arith, c.ranges.high.fits)) (λ n small other least most.
    let same = decimal_is_one c.in-Some.number n is.1 small (sym is.0 ∙ other) in omega (arith, same, least, c.if-number-low.true))

pub returns-then-number-high-clause-number : goal.returns-then-number-high-clause-number
returns-then-number-high-clause-number c =
    let is = rw c.in-Some.is at c.in_ok-number.ensures in
    no_number c.args.low c.args.high c.args.text.now (omega (arith, c.ranges.high.fits)) (λ n small other least most.
    let same = decimal_is_one c.in-Some.number n is.1 small (sym is.0 ∙ other) in omega (arith, same, most, c.if-number-high.true))

pub returns-clause-number : goal.returns-clause-number
returns-clause-number c =
    let is = rw c.in-Some.is at c.in_ok-number.ensures in
    number_found c.args.low c.args.high c.in-Some.number c.args.text.now is.1 is.0 (omega (arith, c.if-number-low.false))
    (omega (arith, c.if-number-high.false))
