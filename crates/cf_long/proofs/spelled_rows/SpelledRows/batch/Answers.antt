use Rattle.std.proofs.Common.{◌∙◌, ◌<◌, ◌≤◌, arith, length, length-drop, drop}
use Rattle.cf_long.proofs.SpelledRows.{cut_by_end}
use Rattle.cf_long.proofs.spelled_rows.SpelledRows.batch.Goals as goal

pub returns : goal.returns
returns c =
    let rest = drop c.args.from c.args.self.now.rows in
    let long = length-drop c.args.from c.args.self.now.rows in
    let few : c.loop-place.place ≤ 4096 = omega (arith, c.min-count.ensures) in
    let all : c.loop-place.place < 4096 → length rest ≤ c.loop-place.place =
    λ low. omega (arith, long, low, c.min-count.ensures, c.saturating_sub.ensures, c.count.ensures) in
    c.loop-place.invariant ∙ cut_by_end c.loop-place.place 4096 rest few all
