use Rattle.std.proofs.Common.{◌≤◌, arith}
use Rattle.std.proofs.Math.Nat.{pow-le-pow_right}
use Rattle.cf_walk.proofs.tree.span_of.Goals as goal

pub pow-requires : goal.pow-requires
pow-requires c =
    let le : c.args.rest ≤ 15 = c.requires in
    let p = pow-le-pow_right {n = 16} (omega arith) {i = c.args.rest} {j = 15} le in
    rw c.from.ensures (omega (arith, p))

pub returns-clause-some : goal.returns-clause-some
returns-clause-some c =
    let p = pow-le-pow_right {n = 16} (omega arith) {i = 0} {j = c.args.rest} (omega arith) in
    let e = c.pow.ensures in
    rw (e, c.from.ensures) (omega (arith, p))
