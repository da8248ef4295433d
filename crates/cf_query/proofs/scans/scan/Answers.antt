use Rattle.std.proofs.Common.{◌∙◌, ℕ, Vec, Global, ap, arith}
use Rattle.cf_row.specs.Expr.{holds_of}
use Rattle.cf_plain.specs.Asks.{row_at, rows_in}
use Rattle.cf_table.specs.Values.{PassValue}
use Rattle.cf_query.proofs.Loaded.{still_fit, looked_on, stretch_none, stretch_one}
use Rattle.cf_query.proofs.scans.scan.Goals as goal
use Rattle.cf_query.proofs.scans.scan.Goals.{then-branch+in_ok-push, else-branch}

pub selects-requires-clause-fit : goal.selects-requires-clause-fit
selects-requires-clause-fit g c =
    still_fit c.args.selection.now.log.shape (g.P.Pass.held c.args.pass.now) (g.P.Pass.held c.loop-offset.pass) c.requires.reads.fit
    c.loop-offset.invariant.looked.only

pub loop-offset-preserved : goal.loop-offset-preserved
loop-offset-preserved g c =
    let o = c.loop-offset.offset in
    let v = c.loop-offset.invariant in
    let f = g.P.Pass.held c.args.pass.now in
    let seen = (f.view).seen in
    let expr = c.args.selection.now.expr in
    let b = c.in_ok-selects.field-0 in
    let low = v.low in
    let holds = c.in_ok-selects.ensures.holds ∙ ap (λ (h : PassValue). holds_of expr (row_at (rows_in (h.view).seen) o)) v.looked.only in
    record {
      low = omega (arith, low);
      found = elim c.if-branch.branch [
        | then-branch+in_ok-push w ↦ stretch_one c.args.from c.args.to seen c.requires.stretch expr o low c.loop-offset-test.true b holds
            (c.loop-offset.found).items (c.if-branch.found).items w.if-branch.true v.found
            (ap (λ (x : Vec ℕ Global). x.items) w.found-is ∙ w.in_ok-push.ensures.items)
        | else-branch w ↦ ap (λ (x : Vec ℕ Global). x.items) w.found-is
            ∙ stretch_none c.args.from c.args.to seen c.requires.stretch expr o low c.loop-offset-test.true b holds
            (c.loop-offset.found).items w.if-branch.false v.found
      ];
      looked = looked_on v.looked c.selects.ensures.looked;
    }
