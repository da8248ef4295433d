-- Laws of reports.
use Rattle.std.specs.Prelude.{◌≡◌, ℕ, ◌<◌, List, length}
use Rattle.cf_row.specs.Row.{RowValue}
use Rattle.cf_row.specs.declared.row.Entry.{Entry}
use Rattle.cf_plain.specs.History.{IsHistoryOf, spell}
use Rattle.cf_plain.specs.Order.{IsOrder, log_of}
use Rattle.cf_plain.specs.Asks.{rows_in, eval}
use Rattle.cf_setup.specs.Setups.{SetupValue, IsSetup, shaped}
use Rattle.cf_shape.specs.Lanes.{ShapeValue}
use Rattle.cf_report.specs.declared.text.Form.TheVariants.{Whole, Final}
use Rattle.cf_plain.specs.Answered.{LoadedValue}
use Rattle.cf_report.specs.Answered.{IsAnswering, tolds_of}
use Rattle.cf_report.specs.Meaning.{final_text, passes_of, IsReport, AreMeant}
use Rattle.cf_report.specs.Text.{text_of}

-- for every number of writers and every valid order, the final part on the log is that on the rows
abbrev pub FinalPartIsOne : Type 0
FinalPartIsOne =
    (shape : ShapeValue) (setup : SetupValue) (rows : List RowValue) (writers : ℕ) (order : List ℕ) → 0 < writers → IsOrder order (length rows) writers
    → final_text shape setup (rows_in (log_of rows writers order)) ≡ final_text shape setup rows

-- The final part doesn't depend on the sizes of the log: with any capacity, writers and nodes, on the log of any valid order, it is that
-- on the rows with any others.
abbrev pub FinalPartHasNoSizes : Type 0
FinalPartHasNoSizes =
    (setup : SetupValue) (capacity writers nodes other_capacity other_writers other_nodes : ℕ) (rows : List RowValue) (order : List ℕ) → 0 < writers
    → IsOrder order (length rows) writers →
    final_text (shaped setup capacity writers nodes) setup (rows_in (log_of rows writers order)) ≡ final_text
    (shaped setup other_capacity other_writers other_nodes) setup rows

-- Answers that are meant on the log of a valid order of some rows make a text that is the report of those rows; with the final
-- form, the text is what the questions and triggers mean on the rows.
pub record MeantAnswersMakeReports : Type 0 where
  pub whole : (setup : SetupValue) (capacity writers nodes rounds : ℕ) (rows : List RowValue) (order : List ℕ) (answered : LoadedValue) → 0 < writers
      → IsOrder order (length rows) writers →
      AreMeant setup (shaped setup capacity writers nodes) rounds (log_of rows writers order) answered →
      IsReport setup capacity writers nodes rounds rows order (text_of Whole setup (log_of rows writers order) answered)
  pub final : (setup : SetupValue) (capacity writers nodes rounds : ℕ) (rows : List RowValue) (order : List ℕ) (answered : LoadedValue) → 0 < writers
      → IsOrder order (length rows) writers →
      AreMeant setup (shaped setup capacity writers nodes) rounds (log_of rows writers order) answered →
      text_of Final setup (log_of rows writers order) answered ≡ final_text (shaped setup capacity writers nodes) setup rows
  -- and such answers, on any log, are ones that a report can be made of
  pub answering : (setup : SetupValue) (shape : ShapeValue) (rounds : ℕ) (log : List Entry) (answered : LoadedValue) → IsSetup setup
      → AreMeant setup shape rounds log answered → IsAnswering setup (length log) answered

-- The live answers and then the final ones, where they are meant on a log, stand with the log in one legal history, which has
-- each entry and each answer once.
abbrev pub ReportsAreHistories : Type 0
ReportsAreHistories =
    (setup : SetupValue) (shape : ShapeValue) (rounds : ℕ) (log : List Entry) (answered : LoadedValue) → AreMeant setup shape rounds log answered →
    IsHistoryOf (eval shape) log (passes_of setup (tolds_of setup.asks answered.finals) answered.lives)
    (spell log (passes_of setup (tolds_of setup.asks answered.finals) answered.lives))
