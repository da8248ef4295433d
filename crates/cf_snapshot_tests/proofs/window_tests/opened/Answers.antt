use Rattle.std.proofs.Common.{◌≤◌, ◌*◌, ◌^◌, arith}
use Rattle.std.proofs.Math.Nat.{mul-le-mul_right}
use Rattle.cf_snapshot_tests.proofs.window_tests.opened.Goals as goal

pub open-requires-clause-bounded : goal.open-requires-clause-bounded
open-requires-clause-bounded c =
    let few = c.requires.few.1 in
    let most = mul-le-mul_right c.args.shape.capacity c.requires.few.0 in
    omega (arith, few, most)
