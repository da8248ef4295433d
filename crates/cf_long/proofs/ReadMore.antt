-- Captures are read ahead of the log.
use Rattle.std.proofs.Common.{◌≡◌, ◌∙◌, ℕ, ◌+◌, Bool, List, ◌++◌, length, map, get_or, All, Option, None, sym, ap, subst, length-append}
use Rattle.std.proofs.lemmas.List.{append_assoc, map-append}
use Rattle.std.proofs.lemmas.List.Elements.{All-append, All-map, All-same}
use Rattle.cf_outside.specs.Files.{File}
use Rattle.cf_row.specs.declared.schema.Attr.{Attr}
use Rattle.cf_row.specs.Row.{Fits, RowValue}
use Rattle.cf_project.specs.Keeping.{keep}
use Rattle.cf_project.specs.Projected.{row_kept}
use Rattle.cf_project.proofs.Schemas.{fit_kept}
use Rattle.cf_intake.specs.Reads.{numbered_on}
use Rattle.cf_intake.specs.Series.{IsSeriesAt, SeriesGoesOn}
use Rattle.cf_intake.specs.declared.series.Series.{Series}
use Rattle.cf_intake.proofs.Numbering.{numbered_append}
use Rattle.cf_long.specs.Ahead.{ComesNext, IsAhead}
use Rattle.cf_long.specs.declared.ahead.Ahead.{Ahead}
use Rattle.cf_long.specs.declared.reads.End.{End}

-- what is left of rows that fit, fits
pub fits_left : (marks : List Bool) (schema : List Attr) (rows : List RowValue) → All (Fits schema) rows
    → All (Fits (keep marks schema)) (map (row_kept marks) rows)
fits_left marks schema rows fit =
    All-map (Fits (keep marks schema)) (row_kept marks) rows (λ k d low. fit_kept marks schema (get_or rows k d).values (fit k d low))

-- more that is left of such rows
pub fits_more : (marks : List Bool) (schema : List Attr) (held all given left : List RowValue) → All (Fits (keep marks schema)) held
    → All (Fits schema) given → left ≡ map (row_kept marks) given → all ≡ held ++ left → All (Fits (keep marks schema)) all
fits_more marks schema held all given left fit fit_given left_is all_is =
    All-same (Fits (keep marks schema)) all (held ++ map (row_kept marks) given) (all_is ∙ ap (λ (rs : List RowValue). held ++ rs) left_is)
    (All-append (Fits (keep marks schema)) held (map (row_kept marks) given) fit (fits_left marks schema given fit_given))

-- More rows came behind those that were read ahead.
module _ (old new : Series) (told : Option (List File)) (before now : Option (List ℕ)) (marks : List Bool) (rows : List RowValue) where
  pub read_more : (ahead after : Ahead) (given left : List RowValue) → IsAhead old told before marks rows ahead → ahead.end ≡ None
      → ((these : List RowValue) → IsSeriesAt old told before these → SeriesGoesOn new told now these given)
      → left ≡ map (row_kept marks) given → after.rows.items ≡ ahead.rows.items ++ left → after.end ≡ None
      → IsAhead new told now marks rows after
  read_more ahead after given left is more_may goes left_is after_is end =
      let at : IsSeriesAt old told before (rows ++ is.more) = subst (λ (e : Option End). ComesNext old told before (rows ++ is.more) e) more_may is.next in
      let next = goes (rows ++ is.more) at in
      let place : length (rows ++ is.more) ≡ length rows + length is.more = length-append rows is.more in
      let numbered : given ≡ numbered_on (length rows + length is.more) next.more =
      next.given_are ∙ ap (λ (n : ℕ). numbered_on n next.more) place in
      record {
        more = is.more ++ next.more;
        left = after_is ∙ ap (λ (rs : List RowValue). ahead.rows.items ++ rs) (left_is ∙ ap (map (row_kept marks)) numbered)
            ∙ ap (λ (rs : List RowValue). rs ++ map (row_kept marks) (numbered_on (length rows + length is.more) next.more)) is.left
            ∙ sym (map-append (row_kept marks) (numbered_on (length rows) is.more) (numbered_on (length rows + length is.more) next.more))
            ∙ ap (map (row_kept marks)) (sym (numbered_append (length rows) is.more next.more));
        next = subst (λ (e : Option End). ComesNext new told now (rows ++ (is.more ++ next.more)) e) (sym end)
            (subst (λ (rs : List RowValue). IsSeriesAt new told now rs) (append_assoc rows is.more next.more) next.at);
      }
