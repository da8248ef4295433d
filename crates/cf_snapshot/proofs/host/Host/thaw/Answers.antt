use Rattle.std.proofs.Common.{false, sym, subst}
use Rattle.cf_snapshot.specs.declared.event.SnapEvent.TheVariants.{Thaw}
use Rattle.cf_snapshot.specs.Hosts.{HostValue, IsEvent}
use Rattle.cf_snapshot.proofs.Standing.{thaw_event}
use Rattle.cf_snapshot.proofs.host.Host.thaw.Goals as goal

pub returns-clause-event : goal.returns-clause-event
returns-clause-event c =
    subst (λ (m : HostValue). IsEvent Thaw (λ s. s.is_released) c.args.self.now (record m { is_frozen = false })) (sym c.self.view_is)
    (thaw_event c.args.self.now c.requires.frozen)
