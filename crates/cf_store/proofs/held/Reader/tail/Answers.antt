use Rattle.std.proofs.Common.{subst, sym}
use Rattle.cf_table.specs.Values.{IsOf}
use Rattle.cf_store.specs.declared.held.Shared.{Shared}
use Rattle.cf_table.specs.Moves.{IsReading}
use Rattle.cf_store.proofs.Aware.{asked_aware}
use Rattle.cf_store.proofs.held.Reader.tail.Goals as goal

pub invariant_of-self : goal.invariant_of-self
invariant_of-self c =
    let of = subst (λ (s : Shared). IsOf c.args.self.now.pass s.log) (sym c.deref.ensures) c.args.self.now.aware.of in record {
      aware = subst (λ (s : Shared). IsReading s.log c.tail.new.pass) c.deref.ensures
          (asked_aware c.deref.result.now.log c.args.self.now.pass c.tail.new.pass of c.tail.ensures.asked);
    }
