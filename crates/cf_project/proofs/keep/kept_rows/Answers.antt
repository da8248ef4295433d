use Rattle.std.proofs.Common.{◌≡◌, ◌∙◌, Bool, List, All, get_or, length, subst, sym}
use Rattle.cf_row.specs.declared.schema.Attr.{Attr}
use Rattle.cf_row.specs.Row.{Fits, RowValue}
use Rattle.cf_project.proofs.Schemas.{fit_length}
use Rattle.cf_project.proofs.keep.kept_rows.Goals as goal

-- rows that fit have as many values as there are marks
as_many : (kept : List Bool) (attrs : List Attr) (rows : List RowValue) → length kept ≡ length attrs → All (Fits attrs) rows
    → All (λ row. length kept ≡ length row.values) rows
as_many kept attrs rows marks fit = λ k d low. marks ∙ fit_length attrs (get_or rows k d).values (fit k d low)

pub keep_rows-requires : goal.keep_rows-requires
keep_rows-requires c =
    let kept = c.args.kept.now in
    subst (λ (rows : List RowValue). All (λ row. length kept ≡ length row.values) rows) (sym c.as_mut_slice.ensures.value)
    (as_many kept c.args._schema.now c.args.rows.items c.requires.marks c.requires.fit)
