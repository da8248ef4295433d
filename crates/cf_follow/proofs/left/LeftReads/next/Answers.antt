use Rattle.std.proofs.Common.{◌≡◌, Bool, List, All, map, get_or, sym, subst}
use Rattle.std.proofs.lemmas.List.Elements.{All-map}
use Rattle.cf_row.specs.declared.schema.Attr.{Attr}
use Rattle.cf_row.specs.Row.{Fits, RowValue}
use Rattle.cf_project.specs.Keeping.{keep}
use Rattle.cf_project.specs.Projected.{row_kept}
use Rattle.cf_project.proofs.Schemas.{fit_kept}
use Rattle.cf_follow.proofs.left.LeftReads.next.Goals as goal

-- what is left of rows that fit, fits
fits_left : (marks : List Bool) (schema : List Attr) (rows : List RowValue) → All (Fits schema) rows
    → All (Fits (keep marks schema)) (map (row_kept marks) rows)
fits_left marks schema rows fit =
    All-map (Fits (keep marks schema)) (row_kept marks) rows (λ k d low. fit_kept marks schema (get_or rows k d).values (fit k d low))

pub returns-in_ok-kept_rows-in-Some-clause-fit : goal.returns-in_ok-kept_rows-in-Some-clause-fit
returns-in_ok-kept_rows-in-Some-clause-fit g c =
    let left = c.args.self.now.left in
    let fit = rw c.in-Some.is at c.in_ok-rows.ensures.fit in
    let whole : All (Fits left.schema) c.in-Some.rows.items =
    subst (λ (attrs : List Attr). All (Fits attrs) c.in-Some.rows.items) (sym c.requires.packets) fit in
    let made : c.in_ok-kept_rows-in-Some.field-0.items ≡ map (row_kept left.kept.items) c.in-Some.rows.items =
    simp c.deref.ensures.value at c.in_ok-kept_rows-in-Some.ensures in
    subst (λ (rows : List RowValue). All (Fits (keep left.kept.items left.schema)) rows) (sym made)
    (fits_left left.kept.items left.schema c.in-Some.rows.items whole)
