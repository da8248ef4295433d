-- What is answered on all rows of a log.
use Rattle.std.specs.Prelude.{◌≡◌, List, length, map}
use Rattle.cf_row.specs.Row.{RowValue}
use Rattle.cf_fold.specs.declared.trigger.Trigger.{Trigger}
use Rattle.cf_shape.specs.Lanes.{ShapeValue}
use Rattle.cf_plain.specs.Asks.{eval_rows, marks_over}
use Rattle.cf_plain.specs.declared.ask.Ask.{Ask}
use Rattle.cf_long.specs.declared.answers.Answers.{Answers}

-- They are the answers about the rows: how many these are, what each question means on them, and the marks of each trigger.
pub record AreAnswers (shape : ShapeValue) (asks : List Ask) (triggers : List Trigger) (rows : List RowValue) (answers : Answers) : Type 0 where
  pub count : answers.count ≡ length rows
  pub finals : answers.finals.items ≡ map (λ ask. eval_rows shape ask rows) asks
  pub alerts : answers.alerts.items ≡ map (λ trigger. marks_over shape trigger rows) triggers
