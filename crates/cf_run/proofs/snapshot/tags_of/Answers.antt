use Rattle.std.proofs.Common.{◌∙◌, List, map, ap, ap₂, arith}
use Rattle.std.proofs.lemmas.List.{take_all}
use Rattle.cf_report.specs.Tags.{bare_log}
use Rattle.cf_row.specs.Row.{RowValue}
use Rattle.cf_run.proofs.Taken.{bare_rows}
use Rattle.cf_run.proofs.snapshot.tags_of.Goals as goal

pub returns : goal.returns
returns c =
    let rows = c.args.rows.now in
    let end = take_all c.loop-row.row-index rows (omega (arith, c.loop-row-test.false)) in
    c.new.ensures
    ∙ ap₂ bare_log (c.loop-row.invariant.nums ∙ ap (λ (rs : List RowValue). map (λ row. row.num) rs) end)
    (c.loop-row.invariant.writers ∙ ap (λ (rs : List RowValue). map (λ (row : RowValue). 0) rs) end)
    ∙ bare_rows rows
