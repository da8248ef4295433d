use Rattle.std.proofs.Common.{◌≤◌, length, arith}
use Rattle.cf_run.proofs.OneHost.{one_below}
use Rattle.cf_run.proofs.snapshot.is_some_full.Goals as goal

pub loop-host-preserved : goal.loop-host-preserved
loop-host-preserved c =
    one_below (λ rows. length rows ≤ c.args.capacity) c.args.hosts.now c.loop-host.host-index c.host-item.result c.loop-host-test.true c.host-item.is
    (omega (arith, c.if-len-capacity.false, c.len.ensures)) c.loop-host.invariant
