use Rattle.std.proofs.Common.{arith, inr}
use Rattle.std.proofs.lemmas.List.{length-take}
use Rattle.cf_intake.proofs.Taking.{takes_more}
use Rattle.cf_intake.proofs.devices.read_rest.Goals as goal

pub returns-then-is_err-clause-stopped : goal.returns-then-is_err-clause-stopped
returns-then-is_err-clause-stopped g c =
    takes_more _ _ _ c.loop-buf.bytes.items _ c.in-Ok.count c.args.limit c.loop-buf.invariant.taken c.in-Ok.ensures.bytes.0
    (omega (arith, c.in-Ok.ensures.bound, c.read.auto.buf, c.min-size.ensures, c.len-in-loop-buf.ensures, length-take c.min-size.result c.loop-buf.buf))

pub returns-clause-taken : goal.returns-clause-taken
returns-clause-taken g c =
    record { taken = c.loop-buf.invariant.taken; most = c.loop-buf.invariant.most; whole = inr (omega (arith, c.loop-buf.invariant.most)) }
