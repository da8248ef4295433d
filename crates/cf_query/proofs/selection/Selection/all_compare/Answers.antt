use Rattle.std.proofs.Common.{◌∙◌, List, ap, sym, get_or}
use Rattle.std.proofs.lemmas.List.Folds.{list_all_at}
use Rattle.cf_row.specs.declared.row.Entry.{Entry}
use Rattle.cf_row.specs.Expr.{atom_holds}
use Rattle.cf_plain.specs.Asks.{row_at, rows_in}
use Rattle.cf_table.specs.Values.{PassValue}
use Rattle.cf_query.proofs.Loaded.{looked_on}
use Rattle.cf_query.proofs.Selecting.{all_rest, no_atom}
use Rattle.cf_query.proofs.selection.Selection.all_compare.Goals as goal

pub returns-then-not-compares-clause-hold : goal.returns-then-not-compares-clause-hold
returns-then-not-compares-clause-hold g c =
    let seen = ((g.P.Pass.held c.args.pass.now).view).seen in
    let i = c.loop-atom.atom-index in
    let o = c.args.offset in
    let same = ap (λ (h : PassValue). (h.view).seen) c.loop-atom.invariant.looked.only in
    let holds = c.compares.ensures.holds ∙ ap (λ (es : List Entry). atom_holds (row_at (rows_in es) o) (get_or c.args.atoms.now i no_atom)) same in
    sym (list_all_at (atom_holds (row_at (rows_in seen) o)) c.args.atoms.now i no_atom c.loop-atom-test.true (sym holds ∙ c.if-not-compares.true))

pub loop-atom-preserved : goal.loop-atom-preserved
loop-atom-preserved g c =
    let f = g.P.Pass.held c.args.pass.now in
    let seen = (f.view).seen in
    let i = c.loop-atom.atom-index in
    let o = c.args.offset in
    let v = c.loop-atom.invariant in
    let same = ap (λ (h : PassValue). (h.view).seen) v.looked.only in
    let holds = c.compares.ensures.holds ∙ ap (λ (es : List Entry). atom_holds (row_at (rows_in es) o) (get_or c.args.atoms.now i no_atom)) same in
    record {
      rest = v.rest ∙ all_rest (atom_holds (row_at (rows_in seen) o)) c.args.atoms.now i no_atom c.loop-atom-test.true (sym holds ∙ c.if-not-compares.false);
      looked = looked_on v.looked c.compares.ensures.looked;
    }
