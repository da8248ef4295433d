-- Captures are read ahead of the log that their rows go into: what came, and what comes behind it.
use Rattle.std.specs.Prelude.{◌≡◌, ℕ, suc, Bool, List, [], ◌++◌, length, map, Option, Some, None}
use Rattle.cf_outside.specs.Files.{File}
use Rattle.cf_row.specs.Row.{RowValue}
use Rattle.cf_project.specs.Projected.{row_kept}
use Rattle.cf_intake.specs.Files.{HasLeft}
use Rattle.cf_intake.specs.Reads.{numbered_on}
use Rattle.cf_intake.specs.Series.{AreEndToEnd, IsSeriesAt, SeriesEnd}
use Rattle.cf_intake.specs.Series.SeriesEnd.{whole, refused}
use Rattle.cf_intake.specs.Several.{names_in}
use Rattle.cf_intake.specs.declared.series.Series.{Series}
use Rattle.cf_long.specs.declared.ahead.Ahead.{Ahead}
use Rattle.cf_long.specs.declared.reads.End.{End}
use Rattle.cf_long.specs.declared.reads.End.TheVariants.{Whole, Refused, Full}

-- the captures have these records, end to end, and end so
abbrev pub HaveEnded : Series → Option (List File) → Option (List ℕ) → List RowValue → SeriesEnd → Type 0
HaveEnded series told now rows end = AreEndToEnd series.schema series.truncated told 1 (names_in series.names.now) rows end × HasLeft told now (Some [])

-- what comes behind these records: others may, or the captures end so
abbrev pub ComesNext : Series → Option (List File) → Option (List ℕ) → List RowValue → Option End → Type 0
ComesNext series told now rows None = IsSeriesAt series told now rows
ComesNext series told now rows (Some Whole) = HaveEnded series told now rows (whole series.cuts.items)
ComesNext series told now rows (Some (Refused why)) = HaveEnded series told now rows (refused (suc series.place) why)
ComesNext series told now rows (Some Full) = ⊥

-- Behind these records others were read: what is left of them, numbered on, and how the captures end behind them, if that was found.
pub record IsAhead (series : Series) (told : Option (List File)) (now : Option (List ℕ)) (marks : List Bool) (rows : List RowValue) (ahead : Ahead)
    : Type 0 where
  pub more : List RowValue
  pub left : ahead.rows.items ≡ map (row_kept marks) (numbered_on (length rows) more)
  pub next : ComesNext series told now (rows ++ more) ahead.end

-- the most rows that are read ahead at once
abbrev pub most_ahead : ℕ
most_ahead = 18431

-- some records came, and others may
abbrev pub IsAtSeries : Series → Option (List File) → Option (List ℕ) → Type 0
IsAtSeries series told now = (rows : List RowValue) × IsSeriesAt series told now rows
