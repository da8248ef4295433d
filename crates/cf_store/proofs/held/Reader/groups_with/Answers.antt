use Rattle.std.proofs.Common.{subst}
use Rattle.std.specs.Arc.{arc_value}
use Rattle.cf_store.specs.Ends.{TellsGroupsSeen}
use Rattle.cf_store.specs.declared.held.Shared.{Shared}
use Rattle.cf_store.proofs.Spans.{groups_read}
use Rattle.cf_store.proofs.held.Reader.groups_with.Goals as goal

pub invariant_of-self : goal.invariant_of-self
invariant_of-self c =
    let m = c.args.self.now.pass in
    let n = c.groups_seen_in.new.pass in
    let ms = c.args.rest.now in
    let ns = c.groups_seen_in.new.rest in
    let r = c.groups_seen_in.result in
    let tells = subst (λ (s : Shared). TellsGroupsSeen s c.args.lane m n ms ns r) c.deref.ensures c.groups_seen_in.ensures in
    record { aware = groups_read (arc_value c.args.self.now.of) c.args.lane m n ms ns r c.requires.reading tells }
