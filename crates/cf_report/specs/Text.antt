-- The text of a report of some answers over a log, by its form.
use Rattle.std.specs.Prelude.{ℕ, List}
use Rattle.cf_row.specs.declared.row.Entry.{Entry}
use Rattle.cf_plain.specs.Order.{order_of}
use Rattle.cf_plain.specs.Asks.{rows_in}
use Rattle.cf_setup.specs.Setups.{SetupValue}
use Rattle.cf_report.specs.declared.text.Form.{Form}
use Rattle.cf_report.specs.declared.text.Form.TheVariants.{Whole, Final}
use Rattle.cf_plain.specs.Answered.{LoadedValue}
use Rattle.cf_report.specs.Answered.{tolds_of}
use Rattle.cf_report.specs.Report.{final_part, report_text}

-- the text of that form: the whole report with the order of the log, or its final part alone
abbrev pub text_of : Form → SetupValue → List Entry → LoadedValue → List ℕ
text_of Whole setup log answered = report_text setup log (order_of log) (tolds_of setup.asks answered.finals) answered.alerts answered.lives
text_of Final setup log answered = final_part setup (rows_in log) (tolds_of setup.asks answered.finals) answered.alerts
