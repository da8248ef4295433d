-- The calls of one thread with their answers are a legal history, and the only one.
use Rattle.std.proofs.Common.{◌≡◌, List, [], ◌∷◌, ◌++◌, length, map, refl, sym, ap, ◌∙◌}
use Rattle.cf_row.specs.declared.row.Entry.{Entry}
use Rattle.cf_shape.specs.Lanes.{ShapeValue}
use Rattle.cf_history.specs.History.{HistoryEvent, IsLegalFrom}
use Rattle.cf_history.specs.History.HistoryEvent.{Appended, Asked}
use Rattle.cf_plain.specs.Asks.{eval}
use Rattle.cf_plain.specs.Calls.{replies_to, call_of, reply_of, IsReplayOf}
use Rattle.cf_plain.specs.declared.ask.Ask.{Ask}
use Rattle.cf_plain.specs.declared.answer.Body.{Body}
use Rattle.cf_plain.specs.declared.calls.Call.{Call}
use Rattle.cf_plain.specs.declared.calls.Call.TheVariants as calls
use Rattle.cf_plain.specs.declared.calls.Reply.{Reply}

module _ (shape : ShapeValue) where
  -- the history of calls from that list on, as those of pass 0
  abbrev replay : List Entry → List Call → List (HistoryEvent Entry Ask Body)
  replay held [] = []
  replay held (calls.Append entry ∷ rest) = Appended entry (length held) ∷ replay (held ++ entry ∷ []) rest
  replay held (calls.Ask ask ∷ rest) = Asked 0 (record { ask = ask; tail = length held; body = eval shape ask held }) ∷ replay held rest

  replay_is_legal : (held : List Entry) (made : List Call) → IsLegalFrom (eval shape) held (replay held made)
  replay_is_legal held [] = tt
  replay_is_legal held (calls.Append entry ∷ rest) = (refl, replay_is_legal (held ++ entry ∷ []) rest)
  replay_is_legal held (calls.Ask ask ∷ rest) = (refl, refl, replay_is_legal held rest)

  calls_of_replay : (held : List Entry) (made : List Call) → map call_of (replay held made) ≡ made
  calls_of_replay held [] = refl
  calls_of_replay held (calls.Append entry ∷ rest) = ap (λ cs. calls.Append entry ∷ cs) (calls_of_replay (held ++ entry ∷ []) rest)
  calls_of_replay held (calls.Ask ask ∷ rest) = ap (λ cs. calls.Ask ask ∷ cs) (calls_of_replay held rest)

  -- a legal history has the answers of its calls
  legal_replies : (held : List Entry) (history : List (HistoryEvent Entry Ask Body)) → IsLegalFrom (eval shape) held history
      → map reply_of history ≡ replies_to shape held (map call_of history)
  legal_replies held [] legal = refl
  legal_replies held (Appended entry offset ∷ history) legal = rw (legal.0, legal_replies (held ++ entry ∷ []) history legal.1) refl
  legal_replies held (Asked pass told ∷ history) legal = rw (legal.0, legal.1, legal_replies held history legal.2) refl

  pub replay_of_calls : (made : List Call) (answers : List Reply) → answers ≡ replies_to shape [] made → (history : List (HistoryEvent Entry Ask Body))
      × IsReplayOf shape made answers history
  replay_of_calls made answers is = (
    replay [] made,
    record {
      legal = replay_is_legal [] made;
      calls = calls_of_replay [] made;
      replies = legal_replies [] (replay [] made) (replay_is_legal [] made) ∙ ap (replies_to shape []) (calls_of_replay [] made) ∙ sym is;
    },
  )

  pub replies_of_replay : (made : List Call) (answers : List Reply) (history : List (HistoryEvent Entry Ask Body)) → IsReplayOf shape made answers history
      → answers ≡ replies_to shape [] made
  replies_of_replay made answers history is = sym is.replies ∙ legal_replies [] history is.legal ∙ ap (replies_to shape []) is.calls
