use Rattle.std.proofs.Common.{◌++◌, ◌∙◌, ℕ, List, ap}
use Rattle.std.proofs.lemmas.Result.{err_from_is_err_and}
use Rattle.cf_command.specs.Call.{dump_by}
use Rattle.cf_row.specs.Schema6.{attrs_by}
use Rattle.cf_follow.specs.Followed.{truncated_line}
use Rattle.cf_run.proofs.Coming.{dump_unread, dump_gives, dump_stopped}
use Rattle.cf_run.proofs.prepare.dump_listing.Goals as goal

pub list_rows-requires : goal.list_rows-requires
list_rows-requires g c = c.new-listing.ensures.none (attrs_by c.args.command.now.schema)

pub returns-in_err-cut-clause-ends : goal.returns-in_err-cut-clause-ends
returns-in_err-cut-clause-ends g c =
    let p = err_from_is_err_and c.from_residual.result c.from_residual.ensures.1 in
    rw (p.1, p.2)
    (dump_unread (g.F.Shelf.files c.args.shelf.now) (dump_by c.args.command.now) (g.F.Shelf.rest c.args.shelf.now)
    (g.F.Shelf.rest c.list_rows.new.shelf) _ c.in_err-cut.ensures.read)

pub returns-in_err-into_text-clause-ends : goal.returns-in_err-into_text-clause-ends
returns-in_err-into_text-clause-ends g c =
    let p = err_from_is_err_and c.from_residual-in_err-into_text.result c.from_residual-in_err-into_text.ensures.1 in
    let said = c.in_ok-cut.ensures.read in
    rw (p.1, p.2)
    (dump_stopped (g.F.Shelf.files c.args.shelf.now) (dump_by c.args.command.now) (g.F.Shelf.rest c.args.shelf.now)
    (g.F.Shelf.rest c.list_rows.new.shelf) (record { rows = said.0; cut = c.in_ok-cut.cut }) said.1)

pub returns-in_err-text-clause-ends : goal.returns-in_err-text-clause-ends
returns-in_err-text-clause-ends g c =
    let p = err_from_is_err_and c.from_residual-in_err-text.result c.from_residual-in_err-text.ensures.1 in
    let said = c.in_ok-cut.ensures.read in
    rw (p.1, p.2)
    (dump_stopped (g.F.Shelf.files c.args.shelf.now) (dump_by c.args.command.now) (g.F.Shelf.rest c.args.shelf.now)
    (g.F.Shelf.rest c.list_rows.new.shelf) (record { rows = said.0; cut = c.in_ok-cut.cut }) said.1)

pub returns-clause-ends : goal.returns-clause-ends
returns-clause-ends g c =
    let said = c.in_ok-cut.ensures.read in
    let listed = c.in_ok-into_text.ensures (attrs_by c.args.command.now.schema) said.0 said.2 in
    dump_gives (g.F.Shelf.files c.args.shelf.now) (dump_by c.args.command.now) (g.F.Shelf.rest c.args.shelf.now)
    (g.F.Shelf.rest c.list_rows.new.shelf) (record { rows = said.0; cut = c.in_ok-cut.cut }) said.1 c.in_ok-text.text.items _
    (c.in_ok-text.ensures ∙ ap (λ (text : List ℕ). text ++ truncated_line c.in_ok-cut.cut) listed) c.new-seals.ensures.items
