use Rattle.cf_watch.proofs.Taking.{kept_taking}
use Rattle.cf_watch.proofs.kept.Kept.take.Goals as goal

pub invariant_of-self-2 : goal.invariant_of-self-2
invariant_of-self-2 c = rw c.in_ok-take_into.ensures.ok (kept_taking c.self.inside.buckets.items c.self.inside.count c.args.bucket c.args.value c.self.invariant)
