use Rattle.std.proofs.Common.{◌≡◌, ◌∙◌, true, Err, IfOk, ap, subst}
use Rattle.cf_alone.specs.Solos.{LacksNodes}
use Rattle.cf_snapshot.specs.declared.event.SnapEvent.TheVariants.{Cover}
use Rattle.cf_snapshot.specs.Hosts.{HostValue, IsEvent, host_of}
use Rattle.cf_append.specs.declared.appends.AppendFault.TheVariants.{NodesFull}
use Rattle.cf_snapshot.proofs.Standing.{covered_event}
use Rattle.cf_snapshot.proofs.host.Host.cover.Goals as goal

pub returns-clause-event : goal.returns-clause-event
returns-clause-event c =
    let inside = c.self.inside in
    let n = host_of c.append.new.self inside.is_frozen in
    let before = ap (λ (m : HostValue). m.is_frozen) c.self.view_is ∙ c.requires.free in
    let event = covered_event (host_of inside.solo inside.is_frozen) n c.args.row.now c.append.result c.shape-lawful.ensures.lawful.capacity.1 before before
    c.append.ensures.come.covered in
    subst (λ (m : HostValue). IfOk c.append.result (λ _. IsEvent Cover (λ _. true) m n)) c.self.view_is event

pub returns-clause-lacks : goal.returns-clause-lacks
returns-clause-lacks c =
    subst (λ (m : HostValue). c.append.result ≡ Err NodesFull → LacksNodes m.shape c.args.row.now m.used) c.self.view_is c.append.ensures.come.lacks
