-- The answers of a report stand in a legal history.
use Rattle.std.proofs.Common.{◌≡◌, ℕ, ◌≤◌, List, [], ◌∷◌, length, map, refl, sym, ap, ap₂, subst, ◌∙◌, arith}
use Rattle.std.proofs.lemmas.List.{take_all, length-map}
use Rattle.std.specs.List.{AllByRecursion}
use Rattle.cf_row.specs.declared.row.Entry.{Entry}
use Rattle.cf_plain.specs.History.{AskReply, IsToldBy, AreToldBy, NeverFall, NeverGoBack, spell, IsHistoryOf}
use Rattle.cf_plain.specs.Tails.{Turn, IsWithinBatch}
use Rattle.cf_plain.proofs.Spelled.{spelled_is_history}
use Rattle.cf_shape.specs.Lanes.{ShapeValue}
use Rattle.cf_plain.specs.Asks.{rows_in, eval}
use Rattle.cf_plain.specs.declared.ask.Ask.{Ask}
use Rattle.cf_plain.specs.declared.answer.Body.{Body}
use Rattle.cf_setup.specs.Setups.{SetupValue}
use Rattle.cf_plain.specs.declared.loaded.Live.{Live}
use Rattle.cf_plain.specs.Answered.{LoadedValue, turn_of, answer_on}
use Rattle.cf_report.specs.Answered.{told_live, tolds_of}
use Rattle.cf_report.specs.Meaning.{told_on, finals_on, passes_of, IsMeant, AreMeant}

lives_told : (shape : ShapeValue) (setup : SetupValue) (log : List Entry) (lives : List Live)
    → AllByRecursion (IsWithinBatch (length log)) (map turn_of lives) → AllByRecursion (IsMeant shape setup log) lives
    → AllByRecursion (IsToldBy (eval shape) log) (map (told_live setup) lives)
lives_told shape setup log [] within meant = tt
lives_told shape setup log (live ∷ lives) within meant =
    ((let up = within.0.1 in omega (arith, up), meant.0), lives_told shape setup log lives within.1 meant.1)

tails_same : (setup : SetupValue) (lives : List Live)
    → map (λ (at : Turn × ℕ). at.1) (map turn_of lives) ≡ map (λ (t : AskReply Ask Body). t.tail) (map (told_live setup) lives)
tails_same setup [] = refl
tails_same setup (live ∷ lives) = ap (λ (ns : List ℕ). live.answer.tail ∷ ns) (tails_same setup lives)

-- the answers on the whole log, with their questions
tolds_on : (shape : ShapeValue) (log : List Entry) (asks : List Ask) → tolds_of asks (map (answer_on shape log) asks) ≡ map (told_on shape (rows_in log)) asks
tolds_on shape log [] = refl
tolds_on shape log (ask ∷ asks) =
    let tail : length log ≡ length (rows_in log) = sym (length-map log (λ (entry : Entry). entry.row)) in
    ap₂ (λ (t : AskReply Ask Body) (ts : List (AskReply Ask Body)). t ∷ ts) (ap (λ (n : ℕ). record { ask = ask; tail = n; body = eval shape ask log }) tail)
    (tolds_on shape log asks)

pub finals_meant : (setup : SetupValue) (shape : ShapeValue) (rounds : ℕ) (log : List Entry) (answered : LoadedValue)
    → AreMeant setup shape rounds log answered → tolds_of setup.asks answered.finals ≡ finals_on shape setup (rows_in log)
finals_meant setup shape rounds log answered meant = ap (tolds_of setup.asks) meant.finals ∙ tolds_on shape log setup.asks

finals_told : (shape : ShapeValue) (log : List Entry) (asks : List Ask) → AllByRecursion (IsToldBy (eval shape) log) (map (told_on shape (rows_in log)) asks)
finals_told shape log [] = tt
finals_told shape log (ask ∷ asks) =
    let same : length (rows_in log) ≡ length log = length-map log (λ (entry : Entry). entry.row) in
    ((omega (arith, same), ap (eval shape ask) (sym (take_all (length (rows_in log)) log (omega (arith, same))))), finals_told shape log asks)

finals_level : (shape : ShapeValue) (log : List Entry) (asks : List Ask)
    → AllByRecursion (λ m. length (rows_in log) ≤ m) (map (λ (t : AskReply Ask Body). t.tail) (map (told_on shape (rows_in log)) asks))
finals_level shape log [] = tt
finals_level shape log (ask ∷ asks) = (omega arith, finals_level shape log asks)

finals_rise : (shape : ShapeValue) (log : List Entry) (asks : List Ask)
    → NeverFall (map (λ (t : AskReply Ask Body). t.tail) (map (told_on shape (rows_in log)) asks))
finals_rise shape log [] = tt
finals_rise shape log (ask ∷ asks) = (finals_level shape log asks, finals_rise shape log asks)

module _ (setup : SetupValue) (shape : ShapeValue) (rounds : ℕ) (log : List Entry) (answered : LoadedValue)
    (meant : AreMeant setup shape rounds log answered) where
  pub report_told : AreToldBy (eval shape) log (passes_of setup (tolds_of setup.asks answered.finals) answered.lives)
  report_told = (
    lives_told shape setup log answered.lives meant.tails.within meant.lives,
    (subst (AllByRecursion (IsToldBy (eval shape) log)) (sym (finals_meant setup shape rounds log answered meant)) (finals_told shape log setup.asks), tt),
  )

  report_goes_on : NeverGoBack (passes_of setup (tolds_of setup.asks answered.finals) answered.lives)
  report_goes_on = (
    subst NeverFall (tails_same setup answered.lives) meant.tails.rise,
    (
      subst (λ (ts : List (AskReply Ask Body)). NeverFall (map (λ (t : AskReply Ask Body). t.tail) ts))
          (sym (finals_meant setup shape rounds log answered meant)) (finals_rise shape log setup.asks),
      tt,
    ),
  )

  pub report_history : IsHistoryOf (eval shape) log (passes_of setup (tolds_of setup.asks answered.finals) answered.lives)
      (spell log (passes_of setup (tolds_of setup.asks answered.finals) answered.lives))
  report_history = spelled_is_history (eval shape) log (passes_of setup (tolds_of setup.asks answered.finals) answered.lives) report_told report_goes_on
