use Rattle.std.proofs.KnownBytes.{Keeps-refl}
use Rattle.cf_outside.proofs.Tries.{read_again, read_settled}
use Rattle.cf_outside.proofs.system.read_on.Goals as goal

pub loop-init : goal.loop-init
loop-init g c = Keeps-refl (g.F.Read.remaining c.args.file.now)

pub returns-in-Some-clause-bytes : goal.returns-in-Some-clause-bytes
returns-in-Some-clause-bytes g c = read_settled _ _ _ c.read.result c.in-Some.outcome _ c.loop.invariant c.read.ensures.bytes c.in-Some.ensures

pub loop-preserved : goal.loop-preserved
loop-preserved g c = read_again _ _ _ c.read.result _ c.loop.invariant c.read.ensures.bytes c.in_default.ensures

pub returns-clause-bytes : goal.returns-clause-bytes
returns-clause-bytes g c = c.loop.invariant
