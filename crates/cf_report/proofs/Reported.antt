-- Answers that are meant on the log of a valid order make the report of the rows.
use Rattle.std.proofs.Common.{◌≡◌, ℕ, ◌<◌, List, [], ◌∷◌, length, map, refl, sym, ap, ap₂, subst, ◌∙◌}
use Rattle.std.specs.List.{AllByRecursion, flat_map, range_with_len}
use Rattle.cf_row.specs.Row.{RowValue}
use Rattle.cf_row.specs.declared.row.Entry.{Entry}
use Rattle.cf_plain.specs.History.{AskReply}
use Rattle.cf_plain.specs.Order.{IsOrder, log_of}
use Rattle.cf_plain.specs.Tails.{Turn, AreTails, batches_of}
use Rattle.cf_plain.proofs.Orders.{log_of_order}
use Rattle.cf_shape.specs.Lanes.{ShapeValue}
use Rattle.cf_plain.specs.Asks.{rows_in}
use Rattle.cf_plain.specs.declared.ask.Ask.{Ask}
use Rattle.cf_plain.specs.declared.answer.Body.{Body}
use Rattle.cf_plain.specs.declared.answer.Fired.{Fired}
use Rattle.cf_setup.specs.Setups.{SetupValue, shaped}
use Rattle.cf_report.specs.declared.text.Form.TheVariants.{Whole, Final}
use Rattle.cf_plain.specs.declared.loaded.Live.{Live}
use Rattle.cf_plain.specs.Answered.{LoadedValue, turn_of, answer_on}
use Rattle.cf_report.specs.Answered.{tolds_of}
use Rattle.cf_report.specs.Report.{final_part, report_text}
use Rattle.cf_report.specs.Meaning.{alerts_on, final_text, IsReport, IsMeant, AreMeant}
use Rattle.cf_report.specs.Text.{text_of}
use Rattle.cf_report.proofs.Legal.{finals_meant, report_told, report_history}
use Rattle.cf_report.proofs.Same.{one_final}

module _ (setup : SetupValue) (capacity writers nodes rounds : ℕ) (rows : List RowValue) (order : List ℕ) (answered : LoadedValue) (some : 0 < writers)
    (valid : IsOrder order (length rows) writers)
    (meant : AreMeant setup (shaped setup capacity writers nodes) rounds (log_of rows writers order) answered) where
  -- the final part that is printed is that of the rows
  printed_final : final_part setup (rows_in (log_of rows writers order)) (tolds_of setup.asks answered.finals) answered.alerts ≡ final_text
      (shaped setup capacity writers nodes) setup rows
  printed_final =
      ap₂ (λ (ts : List (AskReply Ask Body)) (found : List (List Fired)). final_part setup (rows_in (log_of rows writers order)) ts found)
      (finals_meant setup (shaped setup capacity writers nodes) rounds (log_of rows writers order) answered meant) meant.alerts
      ∙ one_final (shaped setup capacity writers nodes) setup rows writers order some valid

  -- the whole text is the report
  pub report_is : IsReport setup capacity writers nodes rounds rows order (text_of Whole setup (log_of rows writers order) answered)
  report_is = record {
    order_is = valid;
    lives = answered.lives;
    tails_are = subst (λ (n : ℕ). AreTails n rounds setup.lives (map turn_of answered.lives)) (log_of_order rows writers order some valid).0.size meant.tails;
    finals = tolds_of setup.asks answered.finals;
    finals_are = finals_meant setup (shaped setup capacity writers nodes) rounds (log_of rows writers order) answered meant;
    alerts = answered.alerts;
    alerts_are = meant.alerts;
    told = report_told setup (shaped setup capacity writers nodes) rounds (log_of rows writers order) answered meant;
    history = report_history setup (shaped setup capacity writers nodes) rounds (log_of rows writers order) answered meant;
    text_is = ap (λ (os : List ℕ). report_text setup (log_of rows writers order) os (tolds_of setup.asks answered.finals) answered.alerts answered.lives)
        (log_of_order rows writers order some valid).1;
    final_is = printed_final;
  }

  -- and the text of the final form is that part alone
  pub final_is : text_of Final setup (log_of rows writers order) answered ≡ final_text (shaped setup capacity writers nodes) setup rows
  final_is = printed_final

-- no round asks nothing
pub no_rounds : (batches lives : List ℕ)
    → ◌≡◌ {A = List Turn}
    (flat_map (λ batch. flat_map (λ round. map (λ ask. record { batch = batch; round = round; ask = ask }) lives) (range_with_len 0 0)) batches) []
no_rounds [] lives = refl
no_rounds (batch ∷ batches) lives = no_rounds batches lives

no_turns : (n : ℕ) (lives : List ℕ) → AreTails n 0 lives []
no_turns n lives = record { turns = sym (no_rounds (range_with_len 0 (batches_of n)) lives); rise = tt; within = tt }

-- answers on a log to which no live question was asked
pub meant_alone : (setup : SetupValue) (shape : ShapeValue) (log : List Entry) (answered : LoadedValue)
    → answered.finals ≡ map (answer_on shape log) setup.asks → answered.alerts ≡ alerts_on shape setup (rows_in log) → answered.lives ≡ []
    → AreMeant setup shape 0 log answered
meant_alone setup shape log answered finals alerts none = record {
  finals = finals;
  alerts = alerts;
  tails = subst (λ (lives : List Live). AreTails (length log) 0 setup.lives (map turn_of lives)) (sym none) (no_turns (length log) setup.lives);
  lives = subst (AllByRecursion (IsMeant shape setup log)) (sym none) tt;
}
