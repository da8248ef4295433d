use Rattle.std.proofs.Common.{◌∙◌, List, get_or, length, set, ap, sym}
use Rattle.std.proofs.lemmas.List.Edits.{map_over_more}
use Rattle.cf_row.specs.Row.{RowValue}
use Rattle.cf_project.specs.Projected.{row_kept}
use Rattle.cf_project.proofs.Keeping.{over_at}
use Rattle.cf_project.proofs.keep.keep_rows.Goals as goal

pub keep-requires : goal.keep-requires
keep-requires c =
    let rows = c.loop-place.rows in
    let place = c.loop-place.place in
    let row = c.index-rows-place.result in
    let was = ap (λ (rs : List RowValue). get_or rs place row) c.loop-place.invariant ∙ over_at (row_kept c.args.kept.now) c.args.rows.now place row in
    c.requires place row c.loop-place-test.true ∙ sym (ap (λ (r : RowValue). length r.values) was)

pub loop-place-preserved : goal.loop-place-preserved
loop-place-preserved c =
    let rows = c.loop-place.rows in
    let place = c.loop-place.place in
    let row = c.index-rows-place.result in
    let test = c.loop-place-test.true in
    let made = c.in_ok-keep.ensures.left ∙ ap (row_kept c.args.kept.now) (sym c.index-rows-place.is) in
    ap (λ (r : RowValue). set rows place r) made
    ∙ map_over_more (row_kept c.args.kept.now) c.args.rows.now rows place row test c.loop-place.invariant c.index-rows-place.is
