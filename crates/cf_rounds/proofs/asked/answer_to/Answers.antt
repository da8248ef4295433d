use Rattle.std.proofs.Common.{arith}
use Rattle.cf_rounds.proofs.Suited.{agg_low}
use Rattle.cf_rounds.proofs.asked.answer_to.Goals as goal

pub marks_of-requires : goal.marks_of-requires
marks_of-requires c =
    let low = agg_low c.args.window.now.shape c.in-Fired.trigger (rw c.in-Fired.is at c.requires.suits) in
    let lanes = c.requires.lanes in
    omega (arith, low, lanes)
