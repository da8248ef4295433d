use Rattle.std.proofs.Common.{ℕ, ◌<◌, ◌≤◌, ◌^◌, arith}
use Rattle.std.proofs.Math.Nat.{pow-le-pow_right}
use Rattle.cf_pcapng.proofs.times.power_of_ten.Goals as goal

small : (i : ℕ) → i < 28 → 10 ^ i ≤ 10 ^ 27
small i h = let few : i ≤ 27 = omega (arith, h) in pow-le-pow_right {n = 10} (omega arith) {i = i} {j = 27} few

pub overflow_mul-power : goal.overflow_mul-power
overflow_mul-power c = omega (arith, small c.loop-i.i (omega arith), c.loop-i.invariant)
