-- What a report tells: the answers of one legal history of a one-thread list.
use Rattle.std.specs.Prelude.{◌≡◌, ℕ, List, [], ◌∷◌, length, map, take}
use Rattle.std.specs.List.{AllByRecursion}
use Rattle.cf_row.specs.Row.{RowValue}
use Rattle.cf_row.specs.declared.row.Entry.{Entry}
use Rattle.cf_plain.specs.History.{AskReply, IsHistoryOf, AreToldBy, spell}
use Rattle.cf_plain.specs.Order.{IsOrder, log_of}
use Rattle.cf_plain.specs.Tails.{AreTails}
use Rattle.cf_shape.specs.Lanes.{ShapeValue}
use Rattle.cf_plain.specs.Asks.{rows_in, eval, eval_rows, marks_over}
use Rattle.cf_plain.specs.declared.ask.Ask.{Ask}
use Rattle.cf_plain.specs.declared.answer.Body.{Body}
use Rattle.cf_plain.specs.declared.answer.Fired.{Fired}
use Rattle.cf_setup.specs.Setups.{SetupValue, shaped}
use Rattle.cf_plain.specs.declared.loaded.Live.{Live}
use Rattle.cf_plain.specs.Answered.{LoadedValue, turn_of, answer_on}
use Rattle.cf_report.specs.Answered.{ask_at, told_live}
use Rattle.cf_report.specs.Report.{final_part, report_text}

-- a question's answer on all of some rows
abbrev pub told_on : ShapeValue → List RowValue → Ask → AskReply Ask Body
told_on shape rows ask = record { ask = ask; tail = length rows; body = eval_rows shape ask rows }

-- the answers of all questions on all of some rows
abbrev pub finals_on : ShapeValue → SetupValue → List RowValue → List (AskReply Ask Body)
finals_on shape setup rows = map (told_on shape rows) setup.asks

-- the marks of all triggers on all of some rows
abbrev pub alerts_on : ShapeValue → SetupValue → List RowValue → List (List Fired)
alerts_on shape setup rows = map (λ trigger. marks_over shape trigger rows) setup.triggers

-- the final part, where the answers are what the questions and triggers mean on these rows
abbrev pub final_text : ShapeValue → SetupValue → List RowValue → List ℕ
final_text shape setup rows = final_part setup rows (finals_on shape setup rows) (alerts_on shape setup rows)

-- the asking passes: the reader beside the writers, and then the final questions
abbrev pub passes_of : SetupValue → List (AskReply Ask Body) → List Live → List (List (AskReply Ask Body))
passes_of setup finals lives = map (told_live setup) lives ∷ finals ∷ []

-- A report over some rows, which the writers brought into the log in this order. The answers that it prints are those of one
-- legal history of a one-thread list. The shape is the setup's with that many tickets, writers and nodes.
pub record IsReport (setup : SetupValue) (capacity writers nodes rounds : ℕ) (rows : List RowValue) (order : List ℕ) (text : List ℕ) : Type 0 where
  -- each row is in the log once, in an order that the writers can have made
  pub order_is : IsOrder order (length rows) writers
  -- the live answers, in their turns
  pub lives : List Live
  pub tails_are : AreTails (length rows) rounds setup.lives (map turn_of lives)
  -- the final answers and the alerts, each on the whole log
  pub finals : List (AskReply Ask Body)
  pub finals_are : finals ≡ finals_on (shaped setup capacity writers nodes) setup (rows_in (log_of rows writers order))
  pub alerts : List (List Fired)
  pub alerts_are : alerts ≡ alerts_on (shaped setup capacity writers nodes) setup (rows_in (log_of rows writers order))
  -- each answer is its question's meaning on the entries that it saw, and all of them stand in one legal history
  pub told : AreToldBy (eval (shaped setup capacity writers nodes)) (log_of rows writers order) (passes_of setup finals lives)
  pub history : IsHistoryOf (eval (shaped setup capacity writers nodes)) (log_of rows writers order) (passes_of setup finals lives)
      (spell (log_of rows writers order) (passes_of setup finals lives))
  -- these answers are printed
  pub text_is : text ≡ report_text setup (log_of rows writers order) order finals alerts lives
  -- and what is printed of the final ones is what the questions and triggers mean on the rows as they were captured
  pub final_is : final_part setup (rows_in (log_of rows writers order)) finals alerts ≡ final_text (shaped setup capacity writers nodes) setup rows

-- a live answer is its question's meaning on the entries that it saw
abbrev pub IsMeant : ShapeValue → SetupValue → List Entry → Live → Type 0
IsMeant shape setup log live = live.answer.body ≡ eval shape (ask_at setup live.ask) (take live.answer.tail log)

-- The answers of a load of a log: the final ones and the alerts mean what they do on all of it, and the live ones, in their
-- turns, on what each saw of it.
pub record AreMeant (setup : SetupValue) (shape : ShapeValue) (rounds : ℕ) (log : List Entry) (answered : LoadedValue) : Type 0 where
  pub finals : answered.finals ≡ map (answer_on shape log) setup.asks
  pub alerts : answered.alerts ≡ alerts_on shape setup (rows_in log)
  pub tails : AreTails (length log) rounds setup.lives (map turn_of answered.lives)
  pub lives : AllByRecursion (IsMeant shape setup log) answered.lives
