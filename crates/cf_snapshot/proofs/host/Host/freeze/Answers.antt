use Rattle.std.proofs.Common.{true, sym, subst}
use Rattle.cf_snapshot.specs.Snapshots.{is_under_way}
use Rattle.cf_snapshot.specs.declared.event.SnapEvent.TheVariants.{Freeze}
use Rattle.cf_snapshot.specs.Hosts.{HostValue, IsEvent}
use Rattle.cf_snapshot.proofs.Standing.{freeze_event}
use Rattle.cf_snapshot.proofs.host.Host.freeze.Goals as goal

pub returns-clause-event : goal.returns-clause-event
returns-clause-event c =
    subst (λ (m : HostValue). IsEvent Freeze is_under_way c.args.self.now (record m { is_frozen = true })) (sym c.self.view_is)
    (freeze_event c.args.self.now c.requires.free)
