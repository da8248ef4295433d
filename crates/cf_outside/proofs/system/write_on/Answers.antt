use Rattle.std.proofs.KnownBytes.{Keeps-refl}
use Rattle.cf_outside.proofs.Tries.{write_again, write_settled}
use Rattle.cf_outside.proofs.system.write_on.Goals as goal

pub loop-init : goal.loop-init
loop-init g c = Keeps-refl (g.W.Write.contents c.args.writer.now)

pub returns-in-Some-clause-bytes : goal.returns-in-Some-clause-bytes
returns-in-Some-clause-bytes g c = write_settled _ _ _ c.write.result c.in-Some.outcome _ c.loop.invariant c.write.ensures.bytes c.in-Some.ensures

pub loop-preserved : goal.loop-preserved
loop-preserved g c = write_again _ _ _ c.write.result _ c.loop.invariant c.write.ensures.bytes c.in_default.ensures

pub returns-clause-bytes : goal.returns-clause-bytes
returns-clause-bytes g c = c.loop.invariant
