-- Histories of a one-thread list of records: calls with their answers, in the order in which one thread could
-- have made them. The kind of entry, of question and of answer is left open, and `eval` says what a question's
-- answer on a list is.
use Rattle.std.specs.Prelude.{◌≡◌, ℕ, ◌+◌, ◌≤◌, List, [], ◌∷◌, ◌++◌, length, take, map, ◌==◌, slice_index_or, if◌then◌else◌}
use Rattle.std.specs.List.{filter, AllByRecursion, filter_map}
use Rattle.std.specs.declared.option.Option.{Option}
use Rattle.std.specs.declared.option.Option.TheVariants.{Some, None}

-- a question with the length of the list and the body that it answered
pub record AskReply (Ask Body : Type 0) : Type 0 where
  pub ask : Ask
  pub tail : ℕ
  pub body : Body

-- an append with the offset that it answered, or a pass's question with its answer
pub data HistoryEvent (Entry Ask Body : Type 0) : Type 0 where
  Appended : (entry : Entry) (offset : ℕ) → HistoryEvent Entry Ask Body
  Asked : (pass : ℕ) (told : AskReply Ask Body) → HistoryEvent Entry Ask Body

-- each number of a list is at most all later ones
abbrev pub NeverFall : List ℕ → Type 0
NeverFall [] = Unit {0}
NeverFall (n ∷ ns) = AllByRecursion (λ m. n ≤ m) ns × NeverFall ns

-- no question of a pass saw less of the log than an earlier one of the pass
abbrev pub NeverGoBack : {Ask Body : Type 0} → List (List (AskReply Ask Body)) → Type 0
NeverGoBack passes = AllByRecursion (λ pass. NeverFall (map (λ told. told.tail) pass)) passes

module _ {Entry Ask Body : Type 0} where
  -- Replayed from the list held so far, each call gives its answer: an append its length, a question its length and the
  -- meaning of the question on it.
  abbrev pub IsLegalFrom : (Ask → List Entry → Body) → List Entry → List (HistoryEvent Entry Ask Body) → Type 0
  IsLegalFrom eval held [] = Unit {0}
  IsLegalFrom eval held (Appended entry offset ∷ events) = (offset ≡ length held) × IsLegalFrom eval (held ++ entry ∷ []) events
  IsLegalFrom eval held (Asked pass told ∷ events) = (told.tail ≡ length held) × (told.body ≡ eval told.ask held) × IsLegalFrom eval held events

  -- the same from the empty list
  abbrev pub IsLegal : (Ask → List Entry → Body) → List (HistoryEvent Entry Ask Body) → Type 0
  IsLegal eval events = IsLegalFrom eval [] events

  -- the questions of one tail: in the order of the passes, and within a pass in its own order
  abbrev pub asked_at : ℕ → ℕ → List (List (AskReply Ask Body)) → List (HistoryEvent Entry Ask Body)
  asked_at tail pass [] = []
  asked_at tail pass (tolds ∷ passes) = map (Asked pass) (filter (λ told. told.tail == tail) tolds) ++ asked_at tail (pass + 1) passes

  -- The appends in order, from that offset on. A question of tail t stands just before append t.
  abbrev pub spell_from : ℕ → List Entry → List (List (AskReply Ask Body)) → List (HistoryEvent Entry Ask Body)
  spell_from tail [] passes = asked_at tail 0 passes
  spell_from tail (entry ∷ log) passes = asked_at tail 0 passes ++ Appended entry tail ∷ spell_from (tail + 1) log passes

  -- the whole of it, from the first append on
  abbrev pub spell : List Entry → List (List (AskReply Ask Body)) → List (HistoryEvent Entry Ask Body)
  spell log passes = spell_from 0 log passes

  -- each answer is the question's meaning on that many first entries of the log
  abbrev pub IsToldBy : (Ask → List Entry → Body) → List Entry → AskReply Ask Body → Type 0
  IsToldBy eval log told = (told.tail ≤ length log) × (told.body ≡ eval told.ask (take told.tail log))

  -- so is each answer of each pass
  abbrev pub AreToldBy : (Ask → List Entry → Body) → List Entry → List (List (AskReply Ask Body)) → Type 0
  AreToldBy eval log passes = AllByRecursion (AllByRecursion (IsToldBy eval log)) passes

  -- the entry of an append
  abbrev pub appended_by : HistoryEvent Entry Ask Body → Option Entry
  appended_by (Appended entry offset) = Some entry
  appended_by (Asked pass told) = None

  -- the entries that a history appends, in its order
  abbrev pub appends_of : List (HistoryEvent Entry Ask Body) → List Entry
  appends_of events = filter_map appended_by events

  -- the question of that pass, with its answer
  abbrev pub asked_by : ℕ → HistoryEvent Entry Ask Body → Option (AskReply Ask Body)
  asked_by pass (Appended entry offset) = None
  asked_by pass (Asked other told) = if other == pass then Some told else None

  -- the questions of a pass, in the history's order
  abbrev pub asks_of : ℕ → List (HistoryEvent Entry Ask Body) → List (AskReply Ask Body)
  asks_of pass events = filter_map (asked_by pass) events

  -- A legal history that has the log's entries once each, in order, and each pass's questions once each, in its order.
  pub record IsHistoryOf (eval : Ask → List Entry → Body) (log : List Entry) (passes : List (List (AskReply Ask Body)))
      (events : List (HistoryEvent Entry Ask Body)) : Type 0 where
    pub legal : IsLegal eval events
    pub appends : appends_of events ≡ log
    pub asks : (pass : ℕ) → asks_of pass events ≡ slice_index_or passes pass []
