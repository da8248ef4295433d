-- The answers of a load, as contracts see them.
use Rattle.std.specs.Prelude.{ℕ, List, [], length}
use Rattle.cf_row.specs.declared.row.Entry.{Entry}
use Rattle.cf_history.specs.Tails.{Turn}
use Rattle.cf_shape.specs.Lanes.{ShapeValue}
use Rattle.cf_plain.specs.Asks.{eval}
use Rattle.cf_plain.specs.declared.ask.Ask.{Ask}
use Rattle.cf_plain.specs.declared.ask.Ask.TheVariants as asks
use Rattle.cf_plain.specs.declared.answer.Answer.{Answer}
use Rattle.cf_plain.specs.declared.answer.Fired.{Fired}
use Rattle.cf_plain.specs.declared.loaded.Live.{Live}

-- the answers on the whole log, what each trigger found there, and the answers of the live questions in their turns
pub record LoadedValue : Type 0 where
  pub finals : List Answer
  pub alerts : List (List Fired)
  pub lives : List Live

-- stands in for a question where there is none
abbrev pub no_ask : Ask
no_ask = asks.List []

-- the reader's turn in which a live answer was given, and how much of the log it saw
abbrev pub turn_of : Live → Turn × ℕ
turn_of live = (record { batch = live.batch; round = live.round; ask = live.ask }, live.answer.tail)

-- a final answer, which saw all of some entries
abbrev pub answer_on : ShapeValue → List Entry → Ask → Answer
answer_on shape log ask = record { tail = length log; body = eval shape ask log }
