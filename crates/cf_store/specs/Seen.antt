-- What is reported of the entries that a pass of a log has seen.
use Rattle.std.specs.Prelude.{ℕ, List, [], map}
use Rattle.cf_row.specs.declared.row.Entry.{Entry}
use Rattle.cf_shape.specs.Lanes.{ShapeValue}
use Rattle.cf_plain.specs.History.{IsHistoryOf, spell}
use Rattle.cf_plain.specs.Asks.{eval, rows_in}
use Rattle.cf_plain.specs.Answered.{LoadedValue, answer_on}
use Rattle.cf_setup.specs.Setups.{SetupValue}
use Rattle.cf_report.specs.Answered.{tolds_of}
use Rattle.cf_report.specs.Meaning.{alerts_on, passes_of}
use Rattle.cf_report.specs.Text.{text_of}
use Rattle.cf_report.specs.declared.text.Form.TheVariants.{Whole}

-- what each question and each trigger of the setup means on these entries; none was asked live
abbrev pub answered_on : ShapeValue → SetupValue → List Entry → LoadedValue
answered_on shape setup log = record { finals = map (answer_on shape log) setup.asks; alerts = alerts_on shape setup (rows_in log); lives = [] }

-- the whole report of these entries, in their order
abbrev pub seen_text : ShapeValue → SetupValue → List Entry → List ℕ
seen_text shape setup log = text_of Whole setup log (answered_on shape setup log)

-- the entries and the answers of the report stand in one legal history, which has each entry and each answer once
abbrev pub SeenReportsAreHistories : Type 0
SeenReportsAreHistories =
    (shape : ShapeValue) (setup : SetupValue) (log : List Entry) →
    IsHistoryOf (eval shape) log (passes_of setup (tolds_of setup.asks (answered_on shape setup log).finals) [])
    (spell log (passes_of setup (tolds_of setup.asks (answered_on shape setup log).finals) []))
