use Rattle.std.proofs.Common.{◌≡◌, ◌<◌, ◌≤◌, ◌*◌, ◌/◌, ◌^◌, ℕ, sym, ap, ◌∙◌, arith}
use Rattle.std.proofs.Math.Nat.{one-le-pow, pow-le-pow_right, div-eq_of_lt}
use Rattle.std.proofs.lemmas.Bool.Decides.{nat_tests}
use Rattle.cf_pcapng.specs.Blocks.{units}
use Rattle.cf_pcapng.proofs.times.whole_of.Goals as goal

pub nonzero_div-result-then-resolution-le28 : goal.nonzero_div-result-then-resolution-le28
nonzero_div-result-then-resolution-le28 c =
    let some : 1 ≤ 10 ^ c.args.resolution = one-le-pow c.args.resolution 10 (omega arith) in
    omega (arith, some, c.power_of_ten.ensures)

units_of_ten : (v : ℕ) → v < 128 → units v ≡ 10 ^ v
units_of_ten v h = grind (arith, nat_tests)

-- a time of 64 bits is below a nanosecond where a second has 10^29 units
none : (v time : ℕ) → 29 ≤ v → v < 128 → time < 2 ^ 64 → 0 ≡ time * 10 ^ 9 / units v
none v time least most small =
    let many : 10 ^ 29 ≤ 10 ^ v = pow-le-pow_right {n = 10} (omega arith) {i = 29} {j = v} least in
    let below : time * 10 ^ 9 < 10 ^ v = omega (arith, many, small) in
    sym (ap (λ n. time * 10 ^ 9 / n) (units_of_ten v most) ∙ div-eq_of_lt below)

pub returns : goal.returns
returns c = none c.args.resolution c.args.time (omega arith) (omega arith) (omega arith)
