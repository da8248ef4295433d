use Rattle.std.proofs.Common.{subst}
use Rattle.cf_store.specs.declared.held.Shared.{Shared}
use Rattle.cf_table.specs.Moves.{IsReading}
use Rattle.cf_store.proofs.held.Reader.groups.Goals as goal

pub invariant_of-self : goal.invariant_of-self
invariant_of-self c = record { aware = subst (λ (s : Shared). IsReading s.log c.groups_of.new.pass) c.deref.ensures c.groups_of.ensures.aware }

pub invariant_of-self-2 : goal.invariant_of-self-2
invariant_of-self-2 c = record { aware = subst (λ (s : Shared). IsReading s.log c.groups_of.new.pass) c.deref.ensures c.groups_of.ensures.aware }
