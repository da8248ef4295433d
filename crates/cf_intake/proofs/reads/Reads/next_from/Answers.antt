use Rattle.std.proofs.Common.{◌∙◌, length, ap, arith}
use Rattle.cf_intake.proofs.Numbering.{numbered_count}
use Rattle.cf_intake.proofs.reads.Reads.next_from.Goals as goal

pub returns-in_ok-numbered_rows-in-Some-clause-few : goal.returns-in_ok-numbered_rows-in-Some-clause-few
returns-in_ok-numbered_rows-in-Some-clause-few g c = λ bytes rows have.
    let found = rw c.in-Some.is at c.in_ok-frames.ensures.few in
    let few = found bytes rows have in
    let count = ap (λ (rs : _). length rs) c.in_ok-numbered_rows-in-Some.ensures.rows
    ∙ numbered_count c.next_frames.new.self.schema c.args.first c.in-Some.frames.items in
    omega (arith, few, count)
