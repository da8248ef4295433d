use Rattle.std.proofs.Common.{subst}
use Rattle.cf_store.specs.declared.held.Shared.{Shared}
use Rattle.cf_table.specs.Moves.{IsReading}
use Rattle.cf_store.proofs.held.Reader.ask_seen.Goals as goal

pub invariant_of-self : goal.invariant_of-self
invariant_of-self c = record { aware = subst (λ (s : Shared). IsReading s.log c.ask_seen_of.new.pass) c.deref.ensures c.ask_seen_of.ensures.aware }
