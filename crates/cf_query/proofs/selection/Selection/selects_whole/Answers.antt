use Rattle.std.proofs.Common.{◌∙◌, ap, sym, subst}
use Rattle.cf_row.specs.Expr.{holds_of}
use Rattle.cf_row.specs.Row.{RowValue}
use Rattle.cf_shape.specs.Lanes.{ShapeValue}
use Rattle.cf_table.specs.Moves.{AreFit}
use Rattle.cf_table.proofs.Reading.{looked_none}
use Rattle.cf_query.specs.Selecting.{SelectionValue}
use Rattle.cf_query.proofs.Loaded.{held_fits}
use Rattle.cf_query.proofs.selection.Selection.selects_whole.Goals as goal
use Rattle.cf_walk.proofs.Tallied.{row_is}

pub holds-requires-clause-fits : goal.holds-requires-clause-fits
holds-requires-clause-fits g c =
    let m = g.P.Pass.held c.args.pass.now in
    let fit = subst (λ (v : SelectionValue). AreFit v.log.shape m.view) (sym c.self.view_is) c.requires.fit in
    held_fits c.self.inside.log.now.shape c.schema.result.now m m c.args.offset c.in_ok-entry.entry fit (looked_none m)
    (c.schema.ensures ∙ ap (λ (x : ShapeValue). x.schema) c.shape.ensures.shape) c.in_ok-entry.ensures.entry

pub returns-clause-holds : goal.returns-clause-holds
returns-clause-holds g c =
    let e = c.in_ok-entry.entry in
    let seen = ((g.P.Pass.held c.args.pass.now).view).seen in
    c.holds.ensures
    ∙ (ap (λ (row : RowValue). holds_of c.self.inside.expr.now row) (row_is seen c.args.offset e c.in_ok-entry.ensures.entry)
    ∙ ap (λ (v : SelectionValue). holds_of v.expr (Rattle.cf_plain.specs.Asks.row_at (Rattle.cf_plain.specs.Asks.rows_in seen) c.args.offset)) c.self.view_is)
