use Rattle.std.proofs.Common.{subst}
use Rattle.std.specs.Arc.{arc_value}
use Rattle.cf_store.specs.Ends.{TellsSeen}
use Rattle.cf_store.specs.declared.held.Shared.{Shared}
use Rattle.cf_store.proofs.Spans.{told_reads}
use Rattle.cf_store.proofs.held.Reader.ask_with.Goals as goal

pub invariant_of-self : goal.invariant_of-self
invariant_of-self c =
    let m = c.args.self.now.pass in
    let n = c.told_seen.new.pass in
    let ms = c.args.rest.now in
    let ns = c.told_seen.new.rest in
    let r = c.told_seen.result in
    let tells = subst (λ (s : Shared). TellsSeen s c.args.number m n ms ns r) c.deref.ensures c.told_seen.ensures in
    record { aware = told_reads (arc_value c.args.self.now.of) c.args.number m n ms ns r c.requires.reading tells }
