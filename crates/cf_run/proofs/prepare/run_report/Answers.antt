use Rattle.std.proofs.Common.{◌*◌, ap, arith, refl, sym, ◌∙◌}
use Rattle.std.proofs.lemmas.Result.{err_from_is_err_and}
use Rattle.cf_command.specs.Call.{run_by}
use Rattle.cf_shape.specs.Lanes.{ShapeValue}
use Rattle.cf_run.specs.Due.Exceeds.{full}
use Rattle.cf_intake.specs.declared.refusal.Refusal.TheVariants as refusals
use Rattle.cf_run.proofs.Coming.{run_unset, run_unopened, run_unread, run_exceeds, run_sealed, run_stopped, run_unmade, unmade_unfailed}
use Rattle.cf_fill.proofs.Filled.{filled_on, filled_over, filled_within}
use Rattle.cf_run.proofs.prepare.run_report.Goals as goal

pub returns-in_err-setup-clause-ends : goal.returns-in_err-setup-clause-ends
returns-in_err-setup-clause-ends g c =
    let p = err_from_is_err_and c.from_residual.result c.from_residual.ensures.1 in
    rw (p.1, p.2)
    (run_unset (g.F.Shelf.files c.args.shelf.now) (run_by c.args.command.now) (g.F.Shelf.rest c.args.shelf.now)
    (g.F.Shelf.rest c.read_setup.new.shelf) _ c.in_err-setup.ensures.read)

pub returns-in_err-filling-clause-ends : goal.returns-in_err-filling-clause-ends
returns-in_err-filling-clause-ends g c =
    let p = err_from_is_err_and c.from_residual-in_err-filling.result c.from_residual-in_err-filling.ensures.1 in
    rw (p.1, p.2)
    (run_unopened (g.F.Shelf.files c.args.shelf.now) (run_by c.args.command.now) (g.F.Shelf.rest c.args.shelf.now)
    (g.F.Shelf.rest c.read_setup.new.shelf) c.in_ok-setup.setup c.in_ok-setup.ensures.read)

pub returns-in_err-filling-clause-cause : goal.returns-in_err-filling-clause-cause
returns-in_err-filling-clause-cause g c =
    let p = err_from_is_err_and c.from_residual-in_err-filling.result c.from_residual-in_err-filling.ensures.1 in
    rw (p.1, p.2) (record { later = c.in_ok-setup.ensures.cause.later; failed = λ e. absurd (cc e) })

pub fill_rows-requires-clause-attrs : goal.fill_rows-requires-clause-attrs
fill_rows-requires-clause-attrs g c κs within = ap (λ (s : ShapeValue). s.schema) c.in_ok-filling.ensures.shape ∙ sym c.format_of.ensures.1

pub returns-in_err-cut-clause-ends : goal.returns-in_err-cut-clause-ends
returns-in_err-cut-clause-ends g c =
    let p = err_from_is_err_and c.from_residual-in_err-cut.result c.from_residual-in_err-cut.ensures.1 in
    rw (p.1, p.2)
    (run_unread (g.F.Shelf.files c.args.shelf.now) (run_by c.args.command.now) (g.F.Shelf.rest c.args.shelf.now)
    (g.F.Shelf.rest c.fill_rows.new.shelf) c.in_ok-setup.setup (g.F.Shelf.rest c.read_setup.new.shelf) c.in_ok-setup.ensures.read _
    (rw (c.in_ok-setup.ensures.files, c.format_of.ensures.0, c.format_of.ensures.1) at c.in_err-cut.ensures.read))

pub returns-then-is_full-clause-ends : goal.returns-then-is_full-clause-ends
returns-then-is_full-clause-ends g c =
    let said = c.in_ok-cut.ensures.read in
    let sizes = c.args.command.now.sizes in
    let setup = c.in_ok-setup.setup in
    let rounds = c.args.command.now.rounds in
    let old = c.in_ok-filling.filling in
    let new = c.fill_rows.new.filling in
    let is = filled_on setup sizes rounds old new said.0 c.in_ok-filling.ensures c.fill_rows.ensures.keeps said.2 in
    let most = c.most-most.ensures in
    rw most (run_exceeds (g.F.Shelf.files c.args.shelf.now) (run_by c.args.command.now) (g.F.Shelf.rest c.args.shelf.now)
    (g.F.Shelf.rest c.fill_rows.new.shelf) c.in_ok-setup.setup (g.F.Shelf.rest c.read_setup.new.shelf) c.in_ok-setup.ensures.read
    (record { rows = said.0; cut = c.in_ok-cut.cut })
    (rw (c.in_ok-setup.ensures.files, c.format_of.ensures.0, c.format_of.ensures.1) at said.1)
    (refusals.Full (sizes.capacity * sizes.segments)) (full (filled_over setup sizes rounds new said.0 is (c.is_full.ensures.full c.if-is_full.true)) refl))

pub report_of-requires-clause-filled : goal.report_of-requires-clause-filled
report_of-requires-clause-filled g c κs within =
    let said = c.in_ok-cut.ensures.read in
    let sizes = c.args.command.now.sizes in
    let setup = c.in_ok-setup.setup in
    let rounds = c.args.command.now.rounds in
    let old = c.in_ok-filling.filling in
    let new = c.fill_rows.new.filling in
    (sizes, rounds, said.0, c.requires, filled_on setup sizes rounds old new said.0 c.in_ok-filling.ensures c.fill_rows.ensures.keeps said.2)

pub returns-in-Ok-clause-ends : goal.returns-in-Ok-clause-ends
returns-in-Ok-clause-ends g c =
    let said = c.in_ok-cut.ensures.read in
    let sizes = c.args.command.now.sizes in
    let setup = c.in_ok-setup.setup in
    let rounds = c.args.command.now.rounds in
    let old = c.in_ok-filling.filling in
    let new = c.fill_rows.new.filling in
    let is = filled_on setup sizes rounds old new said.0 c.in_ok-filling.ensures c.fill_rows.ensures.keeps said.2 in
    run_sealed (g.F.Shelf.files c.args.shelf.now) (run_by c.args.command.now) (g.F.Shelf.rest c.args.shelf.now)
    (g.F.Shelf.rest c.fill_rows.new.shelf) c.in_ok-setup.setup (g.F.Shelf.rest c.read_setup.new.shelf) c.in_ok-setup.ensures.read
    (record { rows = said.0; cut = c.in_ok-cut.cut })
    (rw (c.in_ok-setup.ensures.files, c.format_of.ensures.0, c.format_of.ensures.1) at said.1)
    c.in-Ok.field-0.text.items c.in_ok-text-in-Ok.text.items c.in-Ok.field-0.seals.items
    c.in_ok-text-in-Ok.ensures
    (filled_within setup sizes rounds new said.0 is (c.is_full.ensures.room c.if-is_full.false))
    (c.in-Ok.ensures sizes rounds said.0 c.requires is)

pub returns-in_err-text-in-Ok-clause-ends : goal.returns-in_err-text-in-Ok-clause-ends
returns-in_err-text-in-Ok-clause-ends g c =
    let p = err_from_is_err_and c.from_residual-in_err-text-in-Ok.result c.from_residual-in_err-text-in-Ok.ensures.1 in
    let said = c.in_ok-cut.ensures.read in
    rw (p.1, p.2)
    (run_stopped (g.F.Shelf.files c.args.shelf.now) (run_by c.args.command.now) (g.F.Shelf.rest c.args.shelf.now)
    (g.F.Shelf.rest c.fill_rows.new.shelf) c.in_ok-setup.setup (g.F.Shelf.rest c.read_setup.new.shelf) c.in_ok-setup.ensures.read
    (record { rows = said.0; cut = c.in_ok-cut.cut })
    (rw (c.in_ok-setup.ensures.files, c.format_of.ensures.0, c.format_of.ensures.1) at said.1))

pub returns-clause-ends : goal.returns-clause-ends
returns-clause-ends g c =
    let said = c.in_ok-cut.ensures.read in
    let sizes = c.args.command.now.sizes in
    let setup = c.in_ok-setup.setup in
    let rounds = c.args.command.now.rounds in
    let old = c.in_ok-filling.filling in
    let new = c.fill_rows.new.filling in
    let is = filled_on setup sizes rounds old new said.0 c.in_ok-filling.ensures c.fill_rows.ensures.keeps said.2 in
    rw c.halt.ensures
    (run_unmade (g.F.Shelf.files c.args.shelf.now) (run_by c.args.command.now) (g.F.Shelf.rest c.args.shelf.now) (g.F.Shelf.rest c.fill_rows.new.shelf)
    setup (g.F.Shelf.rest c.read_setup.new.shelf) c.in_ok-setup.ensures.read
    (record { rows = said.0; cut = c.in_ok-cut.cut })
    (rw (c.in_ok-setup.ensures.files, c.format_of.ensures.0, c.format_of.ensures.1) at said.1)
    c.in-Err.why (filled_within setup sizes rounds new said.0 is (c.is_full.ensures.room c.if-is_full.false))
    (c.in-Err.ensures sizes rounds said.0 c.requires is))

pub returns-clause-cause : goal.returns-clause-cause
returns-clause-cause g c =
    let first = c.in_ok-setup.ensures.cause.later in
    let then = c.in_ok-cut.ensures.cause.later in
    rw c.halt.ensures (record { later = omega (arith, first, then); failed = λ e. absurd (unmade_unfailed c.args.command.now.sizes.nodes c.in-Err.why e) })
