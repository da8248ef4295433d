use Rattle.std.proofs.Common.{refl}
use Rattle.std.specs.Arc.{arc_value}
use Rattle.cf_query.proofs.Walking.{walked_looked}
use Rattle.cf_store.proofs.Aware.{looked_aware}
use Rattle.cf_store.proofs.held.Reader.push_tags.Goals as goal

pub invariant_of-self : goal.invariant_of-self
invariant_of-self c = record {
  aware = looked_aware (arc_value c.args.self.now.of).log c.args.self.now.pass c.push_seen.new.pass c.args.self.now.aware c.push_seen.ensures.looked;
}

pub returns-clause-walked : goal.returns-clause-walked
returns-clause-walked c = record {
  of = refl;
  words = refl;
  walked = walked_looked c.args.self.now.pass c.push_seen.new.pass c.push_seen.ensures.looked;
}
