use Rattle.std.proofs.Common.{◌∙◌, ap, sym}
use Rattle.std.proofs.lemmas.Result.{err_from_is_err_and}
use Rattle.cf_command.specs.Call.{watch_by}
use Rattle.cf_row.specs.Schema6.{attrs_by}
use Rattle.cf_row.specs.declared.packet6.PacketSchema.{PacketSchema}
use Rattle.cf_setup.specs.declared.source.Source.TheVariants.{Packets}
use Rattle.cf_intake.specs.declared.refusal.Stop.TheVariants as stops
use Rattle.cf_run.proofs.Watching.{watch_unset, watch_other, watch_kind, watch_unopened, watch_lacking}
use Rattle.cf_run.proofs.watched.begin.Goals as goal

pub returns-in_err-setup-clause-begins : goal.returns-in_err-setup-clause-begins
returns-in_err-setup-clause-begins g c =
    let p = err_from_is_err_and c.from_residual.result c.from_residual.ensures.1 in
    rw (p.1, p.2)
    (watch_unset (g.F.Shelf.files c.args.shelf.now) (watch_by c.args.command.now) (g.F.Shelf.rest c.args.shelf.now)
    (g.F.Shelf.rest c.read_setup.new.shelf) _ c.in_err-setup.ensures.read)

pub returns-in_err-schema-clause-begins : goal.returns-in_err-schema-clause-begins
returns-in_err-schema-clause-begins g c =
    let p = err_from_is_err_and c.from_residual-in_err-schema.result c.from_residual-in_err-schema.ensures.1 in
    rw (p.1, p.2)
    (watch_other (g.F.Shelf.files c.args.shelf.now) (watch_by c.args.command.now) (g.F.Shelf.rest c.args.shelf.now) c.in_ok-setup.setup
    (g.F.Shelf.rest c.read_setup.new.shelf) c.in_ok-setup.ensures.read _ c.in_err-schema.ensures)

pub returns-in_err-open_capture-clause-begins : goal.returns-in_err-open_capture-clause-begins
returns-in_err-open_capture-clause-begins g c =
    let p = err_from_is_err_and c.from_residual-in_err-open_capture.result c.from_residual-in_err-open_capture.ensures.1 in
    rw (p.1, p.2)
    (watch_unopened (g.F.Shelf.files c.args.shelf.now) (watch_by c.args.command.now) (g.F.Shelf.rest c.args.shelf.now) c.in_ok-setup.setup
    (g.F.Shelf.rest c.read_setup.new.shelf) c.in_ok-setup.ensures.read c.in_ok-schema.schema
    (watch_kind (g.F.Shelf.files c.args.shelf.now) (watch_by c.args.command.now) (g.F.Shelf.rest c.args.shelf.now) c.in_ok-setup.setup
    (g.F.Shelf.rest c.read_setup.new.shelf) c.in_ok-setup.ensures.read c.in_ok-schema.schema c.in_ok-schema.ensures)
    (g.F.Shelf.rest c.open_capture.new.shelf) _ (rw c.in_ok-setup.ensures.files at c.in_err-open_capture.ensures.opened))

pub returns-in_err-watching-clause-begins : goal.returns-in_err-watching-clause-begins
returns-in_err-watching-clause-begins g c =
    let p = err_from_is_err_and c.from_residual-in_err-watching.result c.from_residual-in_err-watching.ensures.1 in
    rw (p.1, p.2)
    (watch_lacking (g.F.Shelf.files c.args.shelf.now) (watch_by c.args.command.now) (g.F.Shelf.rest c.args.shelf.now) c.in_ok-setup.setup
    (g.F.Shelf.rest c.read_setup.new.shelf) c.in_ok-setup.ensures.read c.in_ok-schema.schema
    (watch_kind (g.F.Shelf.files c.args.shelf.now) (watch_by c.args.command.now) (g.F.Shelf.rest c.args.shelf.now) c.in_ok-setup.setup
    (g.F.Shelf.rest c.read_setup.new.shelf) c.in_ok-setup.ensures.read c.in_ok-schema.schema c.in_ok-schema.ensures)
    (g.F.Shelf.rest c.open_capture.new.shelf) stops.Memory (rw c.in_ok-setup.ensures.files at c.in_ok-open_capture.ensures.opened))

pub returns-clause-begins : goal.returns-clause-begins
returns-clause-begins g c =
    let kind = watch_kind (g.F.Shelf.files c.args.shelf.now) (watch_by c.args.command.now) (g.F.Shelf.rest c.args.shelf.now) c.in_ok-setup.setup
    (g.F.Shelf.rest c.read_setup.new.shelf) c.in_ok-setup.ensures.read c.in_ok-schema.schema c.in_ok-schema.ensures in
    let made = c.in_ok-watching.ensures in
    record {
      setup = c.in_ok-setup.setup;
      set = c.in_ok-setup.ensures.read.0;
      kind = kind ∙ ap (λ (which : PacketSchema). Packets which) (sym made.schema);
      opens = rw c.in_ok-setup.ensures.files at c.in_ok-open_capture.ensures.opened;
      truncated = made.truncated;
      ready = made.ready;
      packets = made.ready.whole ∙ (c.in_ok-setup.ensures.lawful.schema c.in_ok-schema.schema kind ∙ ap attrs_by (sym made.schema));
    }
