use Rattle.std.proofs.KnownBytes.{Keeps-refl, Keeps-trans}
use Rattle.cf_outside.proofs.system.flush_on.Goals as goal

pub loop-init : goal.loop-init
loop-init g c = Keeps-refl (g.W.Write.contents c.args.writer.now)

pub returns-in-Some : goal.returns-in-Some
returns-in-Some g c = Keeps-trans _ _ _ c.loop.invariant c.flush.ensures.bytes

pub loop-preserved : goal.loop-preserved
loop-preserved g c = Keeps-trans _ _ _ c.loop.invariant c.flush.ensures.bytes

pub returns : goal.returns
returns g c = c.loop.invariant
