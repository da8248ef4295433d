-- The seals of the segments of the logs that were loaded.
use Rattle.std.specs.Prelude.{◌≡◌, ◌+◌, ◌-◌, ◌*◌, ◌/◌, ℕ, max, List, [], length, map, slice_get, Some}
use Rattle.cf_row.specs.Row.{RowValue}
use Rattle.cf_row.specs.declared.row.Entry.{Entry}
use Rattle.cf_plain.specs.Order.{IsOrder, IsLogOf, log_of}
use Rattle.cf_setup.specs.Setups.{SetupValue, shaped}
use Rattle.cf_plain.specs.Answered.{LoadedValue}
use Rattle.cf_report.specs.Meaning.{IsReport, AreMeant, final_text}
use Rattle.cf_report.specs.declared.text.Form.{Form}
use Rattle.cf_report.specs.declared.text.Form.TheVariants.{Whole, Final}
use Rattle.cf_table.specs.Moves.{SealValue}
use Rattle.cf_segments.specs.Blocks.{block}
use Rattle.cf_load.specs.Planned.{tails_of}
use Rattle.cf_segments.specs.Segments.{laid_end_to_end}
use Rattle.cf_fill.specs.Needs.{NeedsAtMost}

-- the tails that the roots of segments were told of, end to end, by their seals
abbrev pub told_in : ℕ → ℕ → List SealValue → List ℕ
told_in n before seals = laid_end_to_end n before (map (λ (seal : SealValue). seal.told) seals)

-- The seals of the segments of a log with these entries, in order. Each segment but the last holds n of them, and one is opened for the
-- first record that those before don't hold. Their roots were told of these tails.
pub record AreSeals (n : ℕ) (entries : List Entry) (told : List ℕ) (seals : List SealValue) : Type 0 where
  pub count : length seals ≡ max 1 ((length entries + n - 1) / n)
  pub each : (k : ℕ) (seal : SealValue) → slice_get seals k ≡ Some seal → seal.entries ≡ block n k entries
  pub told_are : told_in n 0 seals ≡ told

-- The seals of the answers on drawn packets: their entries are the packets' rows in an order that the writers can have made, and
-- nothing was asked live.
pub record AreSynthSeals (rows : List RowValue) (capacity writers : ℕ) (seals : List SealValue) : Type 0 where
  pub order : List ℕ
  pub order_is : IsOrder order (length rows) writers
  pub seals_are : AreSeals capacity (log_of rows writers order) [] seals

-- The entries of a closed log of the rows, the seals of its segments, and the answers of its load: each row stands in it once, each
-- answer is its question's meaning on the entries that it saw, and the roots were told of the tails of the live ones.
pub record IsClosed (setup : SetupValue) (capacity writers nodes rounds : ℕ) (rows : List RowValue) (entries : List Entry) (seals : List SealValue)
    (answered : LoadedValue) : Type 0 where
  pub is : IsLogOf rows writers entries
  pub meant : AreMeant setup (shaped setup capacity writers nodes) rounds entries answered
  pub seals_are : AreSeals capacity entries (tails_of answered.lives) seals
  pub few_nodes : NeedsAtMost (shaped setup capacity writers nodes) (writers * nodes) rows

-- A report of the rows, in an order that the writers can have made. The seals of the log's segments have the rows in that very order, and
-- their roots were told of the tails of the very live answers that the text prints.
pub record IsSealedReport (setup : SetupValue) (capacity writers nodes rounds : ℕ) (rows : List RowValue) (text : List ℕ)
    (seals : List SealValue) : Type 0 where
  pub order : List ℕ
  pub report : IsReport setup capacity writers nodes rounds rows order text
  pub seals_are : AreSeals capacity (log_of rows writers order) (tails_of report.lives) seals

-- The final part of a report of the rows: the same whatever the numbers of writers and segments and the schedule. The seals of the log's
-- segments have the rows in an order that the writers can have made, and nothing was asked live.
pub record IsSealedFinal (setup : SetupValue) (capacity writers nodes : ℕ) (rows : List RowValue) (text : List ℕ) (seals : List SealValue) : Type 0 where
  pub text_is : text ≡ final_text (shaped setup capacity writers nodes) setup rows
  pub seals_are : AreSynthSeals rows capacity writers seals

-- A report of the rows in that form, with the seals of the log. Of the final part this is said where no live question was asked.
abbrev pub IsSealedIn : Form → SetupValue → ℕ → ℕ → ℕ → ℕ → List RowValue → List ℕ → List SealValue → Type 0
IsSealedIn Whole setup capacity writers nodes rounds rows text seals = IsSealedReport setup capacity writers nodes rounds rows text seals
IsSealedIn Final setup capacity writers nodes rounds rows text seals = rounds ≡ 0 → IsSealedFinal setup capacity writers nodes rows text seals
