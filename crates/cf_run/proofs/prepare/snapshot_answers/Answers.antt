use Rattle.std.proofs.Common.{refl}
use Rattle.std.proofs.lemmas.Result.{err_from_is_err_and}
use Rattle.cf_command.specs.Call.{snapshot_by}
use Rattle.cf_intake.specs.Files.{captures}
use Rattle.cf_run.specs.Due.HostsExceed.{some_short}
use Rattle.cf_intake.specs.declared.refusal.Refusal.TheVariants as refusals
use Rattle.cf_run.proofs.Coming.{snapshot_unset, snapshot_unread, snapshot_full, snapshot_exceeds, snapshot_stopped, snapshot_told}
use Rattle.cf_run.proofs.Keeping.{all_kept}
use Rattle.cf_run.proofs.prepare.snapshot_answers.Goals as goal

pub returns-in_err-setup-clause-ends : goal.returns-in_err-setup-clause-ends
returns-in_err-setup-clause-ends g c =
    let p = err_from_is_err_and c.from_residual.result c.from_residual.ensures.1 in
    rw (p.1, p.2)
    (snapshot_unset (g.F.Shelf.files c.args.shelf.now) (snapshot_by c.args.command.now) (g.F.Shelf.rest c.args.shelf.now)
    (g.F.Shelf.rest c.read_setup.new.shelf) _ c.in_err-setup.ensures.read)

pub returns-in_err-captures-clause-ends : goal.returns-in_err-captures-clause-ends
returns-in_err-captures-clause-ends g c =
    let p = err_from_is_err_and c.from_residual-in_err-captures.result c.from_residual-in_err-captures.ensures.1 in
    rw (p.1, p.2)
    (snapshot_unread (g.F.Shelf.files c.args.shelf.now) (snapshot_by c.args.command.now) (g.F.Shelf.rest c.args.shelf.now)
    (g.F.Shelf.rest c.read_hosts.new.shelf) c.in_ok-setup.setup (g.F.Shelf.rest c.read_setup.new.shelf) c.in_ok-setup.ensures.read c.in_err-captures.field-0.0
    (rw (c.in_ok-setup.ensures.files, c.format_of.ensures.0, c.format_of.ensures.1, c.deref.ensures.value) at c.in_err-captures.ensures.read))

pub returns-then-is_some_full-clause-ends : goal.returns-then-is_some_full-clause-ends
returns-then-is_some_full-clause-ends g c =
    let many = rw c.deref-2.ensures.value at (c.is_some_full.ensures.some c.if-is_some_full.true) in
    snapshot_full (g.F.Shelf.files c.args.shelf.now) (snapshot_by c.args.command.now) (g.F.Shelf.rest c.args.shelf.now)
    (g.F.Shelf.rest c.read_hosts.new.shelf) c.in_ok-setup.setup (g.F.Shelf.rest c.read_setup.new.shelf) c.in_ok-setup.ensures.read
    c.in_ok-captures.captures.items
    (rw (c.in_ok-setup.ensures.files, c.format_of.ensures.0, c.format_of.ensures.1, c.deref.ensures.value) at c.in_ok-captures.ensures.read) many

pub returns-in-Err-Nodes-clause-ends : goal.returns-in-Err-Nodes-clause-ends
returns-in-Err-Nodes-clause-ends g c =
    let few = rw c.deref-2.ensures.value at (c.is_some_full.ensures.none c.if-is_some_full.false) in
    snapshot_exceeds (g.F.Shelf.files c.args.shelf.now) (snapshot_by c.args.command.now) (g.F.Shelf.rest c.args.shelf.now)
    (g.F.Shelf.rest c.read_hosts.new.shelf) c.in_ok-setup.setup (g.F.Shelf.rest c.read_setup.new.shelf) c.in_ok-setup.ensures.read
    c.in_ok-captures.captures.items
    (all_kept (captures c.in_ok-setup.setup.source c.args.command.now.truncated c.in_ok-setup.setup.schema) (g.F.Shelf.files c.args.shelf.now)
    (snapshot_by c.args.command.now).captures (g.F.Shelf.rest c.read_hosts.new.shelf) c.args.command.now.sizes.capacity c.in_ok-captures.captures.items
    (rw (c.in_ok-setup.ensures.files, c.format_of.ensures.0, c.format_of.ensures.1, c.deref.ensures.value) at c.in_ok-captures.ensures.read)
    (rw c.deref-2.ensures.value at (c.is_some_full.ensures.none c.if-is_some_full.false)))
    (refusals.Nodes c.args.command.now.sizes.nodes) (some_short few (c.in-Err-Nodes.ensures.nodes c.in-Err-Nodes.field-0-is) refl)

pub returns-clause-ends : goal.returns-clause-ends
returns-clause-ends g c =
    snapshot_stopped (g.F.Shelf.files c.args.shelf.now) (snapshot_by c.args.command.now) (g.F.Shelf.rest c.args.shelf.now)
    (g.F.Shelf.rest c.read_hosts.new.shelf) c.in_ok-setup.setup (g.F.Shelf.rest c.read_setup.new.shelf) c.in_ok-setup.ensures.read
    c.in_ok-captures.captures.items
    (all_kept (captures c.in_ok-setup.setup.source c.args.command.now.truncated c.in_ok-setup.setup.schema) (g.F.Shelf.files c.args.shelf.now)
    (snapshot_by c.args.command.now).captures (g.F.Shelf.rest c.read_hosts.new.shelf) c.args.command.now.sizes.capacity c.in_ok-captures.captures.items
    (rw (c.in_ok-setup.ensures.files, c.format_of.ensures.0, c.format_of.ensures.1, c.deref.ensures.value) at c.in_ok-captures.ensures.read)
    (rw c.deref-2.ensures.value at (c.is_some_full.ensures.none c.if-is_some_full.false)))

pub returns-in-Ok-clause-ends : goal.returns-in-Ok-clause-ends
returns-in-Ok-clause-ends g c =
    snapshot_told (g.F.Shelf.files c.args.shelf.now) (snapshot_by c.args.command.now) (g.F.Shelf.rest c.args.shelf.now)
    (g.F.Shelf.rest c.read_hosts.new.shelf) c.in_ok-setup.setup (g.F.Shelf.rest c.read_setup.new.shelf) c.in_ok-setup.ensures.read
    c.in_ok-captures.captures.items
    (all_kept (captures c.in_ok-setup.setup.source c.args.command.now.truncated c.in_ok-setup.setup.schema) (g.F.Shelf.files c.args.shelf.now)
    (snapshot_by c.args.command.now).captures (g.F.Shelf.rest c.read_hosts.new.shelf) c.args.command.now.sizes.capacity c.in_ok-captures.captures.items
    (rw (c.in_ok-setup.ensures.files, c.format_of.ensures.0, c.format_of.ensures.1, c.deref.ensures.value) at c.in_ok-captures.ensures.read)
    (rw c.deref-2.ensures.value at (c.is_some_full.ensures.none c.if-is_some_full.false)))
    c.in-Ok.text.items c.new-seals.result.items c.in-Ok.ensures.room c.in-Ok.ensures.text c.new-seals.ensures.items
