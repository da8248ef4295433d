-- What one thread's calls answer, one after the other.
use Rattle.std.specs.Prelude.{◌≡◌, ℕ, ◌+◌, List, [], ◌∷◌, ◌++◌, length, map}
use Rattle.cf_row.specs.Row.{Fits}
use Rattle.cf_row.specs.declared.row.Entry.{Entry}
use Rattle.cf_shape.specs.Lanes.{ShapeValue}
use Rattle.cf_history.specs.History.{HistoryEvent, IsLegal}
use Rattle.cf_history.specs.History.HistoryEvent.{Appended, Asked}
use Rattle.cf_plain.specs.Asks.{Suits, eval}
use Rattle.cf_plain.specs.declared.ask.Ask.{Ask}
use Rattle.cf_plain.specs.declared.answer.Body.{Body}
use Rattle.cf_plain.specs.declared.calls.Call.{Call}
use Rattle.cf_plain.specs.declared.calls.Call.TheVariants as calls
use Rattle.cf_plain.specs.declared.calls.Reply.{Reply}
use Rattle.cf_plain.specs.declared.calls.Reply.TheVariants as replies

-- an appended row fits, and a question suits
abbrev pub IsLawful : ShapeValue → Call → Type 0
IsLawful shape (calls.Append entry) = Fits shape.schema entry.row
IsLawful shape (calls.Ask ask) = Suits shape ask

-- how many entries a call appends
abbrev pub appends_by : Call → ℕ
appends_by (calls.Append entry) = 1
appends_by (calls.Ask ask) = 0

-- how many of the calls append
abbrev pub appends_in : List Call → ℕ
appends_in [] = 0
appends_in (call ∷ rest) = appends_by call + appends_in rest

-- the list after a call
abbrev pub held_after : List Entry → Call → List Entry
held_after held (calls.Append entry) = held ++ entry ∷ []
held_after held (calls.Ask ask) = held

-- a call's answer on the list held so far
abbrev pub reply_by : ShapeValue → List Entry → Call → Reply
reply_by shape held (calls.Append entry) = replies.Place (length held)
reply_by shape held (calls.Ask ask) = replies.Told (record { tail = length held; body = eval shape ask held })

-- the answers of calls, the first of which is made on that list
abbrev pub replies_to : ShapeValue → List Entry → List Call → List Reply
replies_to shape held [] = []
replies_to shape held (call ∷ rest) = reply_by shape held call ∷ replies_to shape (held_after held call) rest

-- a history's event as a call
abbrev pub call_of : HistoryEvent Entry Ask Body → Call
call_of (Appended entry offset) = calls.Append entry
call_of (Asked pass told) = calls.Ask told.ask

-- and as the call's answer
abbrev pub reply_of : HistoryEvent Entry Ask Body → Reply
reply_of (Appended entry offset) = replies.Place offset
reply_of (Asked pass told) = replies.Told (record { tail = told.tail; body = told.body })

-- a legal history with these calls and these answers
pub record IsReplayOf (shape : ShapeValue) (made : List Call) (answers : List Reply) (history : List (HistoryEvent Entry Ask Body)) : Type 0 where
  pub legal : IsLegal (eval shape) history
  pub calls : map call_of history ≡ made
  pub replies : map reply_of history ≡ answers
