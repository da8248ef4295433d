-- The history of a log that was closed.
use Rattle.std.specs.Prelude.{◌≡◌, List, length}
use Rattle.std.specs.List.{AllByRecursion}
use Rattle.cf_row.specs.declared.row.Entry.{Entry}
use Rattle.cf_shape.specs.Lanes.{ShapeValue}
use Rattle.cf_history.specs.History.{AskReply, NeverGoBack, spell, IsHistoryOf}
use Rattle.cf_plain.specs.Asks.{eval}
use Rattle.cf_plain.specs.declared.ask.Ask.{Ask}
use Rattle.cf_plain.specs.declared.answer.Body.{Body}
use Rattle.cf_table.specs.Moves.{Begins, SealValue}

-- the question was answered on some beginning of the log
pub record IsAskAnswered (shape : ShapeValue) (entries : List Entry) (t : AskReply Ask Body) : Type 0 where
  pub seen : List Entry
  pub begins : Begins seen entries
  pub tail : t.tail ≡ length seen
  pub body : t.body ≡ eval shape t.ask seen

-- A sealed log and the questions of some passes, each answered on what its pass had seen, no pass going back, are the
-- history of one thread.
abbrev pub SealsAreHistories : Type 0
SealsAreHistories =
    (shape : ShapeValue) (seal : SealValue) (passes : List (List (AskReply Ask Body)))
    → AllByRecursion (AllByRecursion (IsAskAnswered shape seal.entries)) passes → NeverGoBack passes
    → IsHistoryOf (eval shape) seal.entries passes (spell seal.entries passes)
