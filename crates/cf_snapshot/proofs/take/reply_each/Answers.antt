use Rattle.std.proofs.Common.{arith}
use Rattle.cf_snapshot.specs.declared.event.SnapEvent.TheVariants.{Reply}
use Rattle.cf_snapshot.proofs.Ending.{map_step, reply_stays}
use Rattle.cf_snapshot.proofs.take.reply_each.Goals as goal

pub loop-host-preserved : goal.loop-host-preserved
loop-host-preserved c =
    let i = c.loop-host.invariant in
    let snap = c.args.snap.now in
    let h = c.loop-host.host in
    let new = c.step.new.snap in
    record {
      stays = reply_stays snap c.loop-host.snap h i.stays c.requires.time c.requires.frozen (omega (arith, c.loop-host-test.true, c.requires.hosts)) new
          c.step.ensures;
      state = map_step (λ x. Reply x) snap c.loop-host.snap new h i.state c.step.ensures;
    }

pub returns-clause-tails : goal.returns-clause-tails
returns-clause-tails c = c.loop-host.invariant.stays.tails

pub returns-clause-marks : goal.returns-clause-marks
returns-clause-marks c = c.loop-host.invariant.stays.frozen
