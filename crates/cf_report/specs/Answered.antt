-- Which answers of a load a report can tell.
use Rattle.std.specs.Prelude.{◌≡◌, ℕ, ◌<◌, Bool, true, false, List, [], ◌∷◌, All, length, slice_index_or}
use Rattle.cf_plain.specs.History.{AskReply}
use Rattle.cf_plain.specs.Answered.{LoadedValue, no_ask}
use Rattle.cf_plain.specs.declared.ask.Ask.{Ask}
use Rattle.cf_plain.specs.declared.ask.Ask.TheVariants as asks
use Rattle.cf_plain.specs.declared.answer.Answer.{Answer}
use Rattle.cf_plain.specs.declared.answer.Body.{Body}
use Rattle.cf_plain.specs.declared.answer.Body.TheVariants as bodies
use Rattle.cf_setup.specs.Setups.{SetupValue}
use Rattle.cf_plain.specs.declared.loaded.Live.{Live}

-- the question at a place of the setup
abbrev pub ask_at : SetupValue → ℕ → Ask
ask_at setup place = slice_index_or setup.asks place no_ask

-- a question with its answer
abbrev pub told_by : Ask → Answer → AskReply Ask Body
told_by ask answer = record { ask = ask; tail = answer.tail; body = answer.body }

-- each question with the answer at its place
abbrev pub tolds_of : List Ask → List Answer → List (AskReply Ask Body)
tolds_of [] answers = []
tolds_of (ask ∷ rest) [] = []
tolds_of (ask ∷ rest) (answer ∷ answers) = told_by ask answer ∷ tolds_of rest answers

-- a live question with its answer
abbrev pub told_live : SetupValue → Live → AskReply Ask Body
told_live setup live = told_by (ask_at setup live.ask) live.answer

-- the body is places of rows
abbrev pub are_places : Body → Bool
are_places (bodies.Places places) = true
are_places (bodies.Total quad) = false
are_places (bodies.Marks marks) = false
are_places (bodies.Tops tops) = false
are_places (bodies.Groups groups) = false

-- the body is one quad
abbrev pub is_total : Body → Bool
is_total (bodies.Places places) = false
is_total (bodies.Total quad) = true
is_total (bodies.Marks marks) = false
is_total (bodies.Tops tops) = false
is_total (bodies.Groups groups) = false

-- the body is a trigger's marks
abbrev pub are_marks : Body → Bool
are_marks (bodies.Places places) = false
are_marks (bodies.Total quad) = false
are_marks (bodies.Marks marks) = true
are_marks (bodies.Tops tops) = false
are_marks (bodies.Groups groups) = false

-- the body is the first keys of a tally, with their parts
abbrev pub are_tops : Body → Bool
are_tops (bodies.Places places) = false
are_tops (bodies.Total quad) = false
are_tops (bodies.Marks marks) = false
are_tops (bodies.Tops tops) = true
are_tops (bodies.Groups groups) = false

-- the body is all groups of a lane
abbrev pub are_groups : Body → Bool
are_groups (bodies.Places places) = false
are_groups (bodies.Total quad) = false
are_groups (bodies.Marks marks) = false
are_groups (bodies.Tops tops) = false
are_groups (bodies.Groups groups) = true

-- the body is one of the question's kind
abbrev pub is_body_of : Ask → Body → Bool
is_body_of (asks.List expr) body = are_places body
is_body_of (asks.Find lane low high) body = are_places body
is_body_of (asks.Between lane low high) body = are_places body
is_body_of (asks.Measure lane low high) body = is_total body
is_body_of (asks.Fired trigger) body = are_marks body
is_body_of (asks.Top lane part count) body = are_tops body
is_body_of (asks.Groups lane) body = are_groups body
is_body_of (asks.Total attr expr) body = is_total body

-- the body speaks of the first n places alone
abbrev pub IsWithin : ℕ → Body → Type 0
IsWithin n (bodies.Places places) = All (λ place. place < n) places
IsWithin n (bodies.Total quad) = Unit {0}
IsWithin n (bodies.Marks marks) = Unit {0}
IsWithin n (bodies.Tops tops) = Unit {0}
IsWithin n (bodies.Groups groups) = Unit {0}

-- An answer to each question, marks to each trigger, and live answers to questions that exist. Each body is of its question's
-- kind, and its places are those of the n entries.
pub record IsAnswering (setup : SetupValue) (n : ℕ) (answered : LoadedValue) : Type 0 where
  pub finals : length answered.finals ≡ length setup.asks
  pub alerts : length answered.alerts ≡ length setup.triggers
  pub lives : All (λ live. live.ask < length setup.asks) answered.lives
  pub final_kinds : All (λ told. is_body_of told.ask told.body ≡ true) (tolds_of setup.asks answered.finals)
  pub final_places : All (λ answer. IsWithin n answer.body) answered.finals
  pub live_kinds : All (λ live. is_body_of (ask_at setup live.ask) live.answer.body ≡ true) answered.lives
  pub live_places : All (λ live. IsWithin n live.answer.body) answered.lives
