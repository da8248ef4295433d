-- Answers that are meant on a log are of their questions' kinds, and speak of its entries alone.
use Rattle.std.proofs.Common.{◌≡◌, ℕ, ◌<◌, ◌≤◌, Bool, true, nat_lt, List, [], ◌∷◌, length, map, filter, take, get_or, refl, sym, ap, subst, ◌∙◌, arith}
use Rattle.std.specs.List.{All, AllByRecursion, flat_map, range_with_len}
use Rattle.std.proofs.lemmas.Bool.{ltb-true}
use Rattle.std.proofs.lemmas.List.{length-map, length-take}
use Rattle.std.proofs.lemmas.List.Sums.{AllPass-from_list_all}
use Rattle.std.proofs.lemmas.List.FromFn.{length-range_with_len, get_or-range_with_len}
use Rattle.std.proofs.lemmas.List.Elements.{All-filter, All-map, All-append, All-nil, All-from_recursion, recursion_from_All}
use Rattle.cf_row.specs.declared.row.Entry.{Entry}
use Rattle.cf_row.specs.Row.{RowValue}
use Rattle.cf_plain.specs.History.{AskReply}
use Rattle.cf_plain.specs.Tails.{Turn, turns_of, batches_of}
use Rattle.cf_shape.specs.Lanes.{ShapeValue}
use Rattle.cf_plain.specs.Asks.{rows_in, row_at, counts_for, eval, eval_rows, marks_over}
use Rattle.cf_plain.specs.declared.ask.Ask.{Ask}
use Rattle.cf_plain.specs.declared.ask.Ask.TheVariants as asks
use Rattle.cf_plain.specs.declared.answer.Answer.{Answer}
use Rattle.cf_plain.specs.declared.answer.Body.{Body}
use Rattle.cf_plain.specs.declared.answer.Body.TheVariants as bodies
use Rattle.cf_plain.specs.declared.answer.Fired.{Fired}
use Rattle.cf_setup.specs.Setups.{SetupValue, IsSetup}
use Rattle.cf_plain.specs.declared.loaded.Live.{Live}
use Rattle.cf_plain.specs.Answered.{LoadedValue, turn_of, answer_on}
use Rattle.cf_report.specs.Answered.{ask_at, is_body_of, IsWithin, IsAnswering}
use Rattle.cf_report.specs.Meaning.{told_on, IsMeant, AreMeant}
use Rattle.cf_report.proofs.Legal.{finals_meant}

low_range : (n : ℕ) → All (λ place. place < n) (range_with_len 0 n)
low_range n k d lt = let e = get_or-range_with_len 0 n k d (omega (arith, lt, length-range_with_len 0 n)) in omega (arith, e, lt, length-range_with_len 0 n)

low_places : (p : RowValue → Bool) (rows : List RowValue)
    → All (λ place. place < length rows) (filter (λ place. p (row_at rows place)) (range_with_len 0 (length rows)))
low_places p rows = All-filter (λ place. p (row_at rows place)) (λ place. place < length rows) (range_with_len 0 (length rows)) (low_range (length rows))

pub body_within : (shape : ShapeValue) (ask : Ask) (rows : List RowValue) → IsWithin (length rows) (eval_rows shape ask rows)
body_within shape (asks.List expr) rows = low_places (counts_for shape (asks.List expr)) rows
body_within shape (asks.Find lane low high) rows = low_places (counts_for shape (asks.Find lane low high)) rows
body_within shape (asks.Between lane low high) rows = low_places (counts_for shape (asks.Between lane low high)) rows
body_within shape (asks.Measure lane low high) rows = tt
body_within shape (asks.Fired trigger) rows = tt
body_within shape (asks.Top lane part count) rows = tt
body_within shape (asks.Groups lane) rows = tt
body_within shape (asks.Total attr expr) rows = tt

body_kind : (shape : ShapeValue) (ask : Ask) (rows : List RowValue) → is_body_of ask (eval_rows shape ask rows) ≡ true
body_kind shape (asks.List expr) rows = refl
body_kind shape (asks.Find lane low high) rows = refl
body_kind shape (asks.Between lane low high) rows = refl
body_kind shape (asks.Measure lane low high) rows = refl
body_kind shape (asks.Fired trigger) rows = refl
body_kind shape (asks.Top lane part count) rows = refl
body_kind shape (asks.Groups lane) rows = refl
body_kind shape (asks.Total attr expr) rows = refl

pub within_more : (m n : ℕ) (body : Body) → m ≤ n → IsWithin m body → IsWithin n body
within_more m n (bodies.Places places) le within = λ k d lt. let low = within k d lt in omega (arith, low, le)
within_more m n (bodies.Total quad) le within = tt
within_more m n (bodies.Marks marks) le within = tt
within_more m n (bodies.Tops tops) le within = tt
within_more m n (bodies.Groups groups) le within = tt

within_log : (shape : ShapeValue) (ask : Ask) (log : List Entry) (n : ℕ) → length log ≤ n → IsWithin n (eval shape ask log)
within_log shape ask log n le = let same : length (rows_in log) ≡ length log = length-map log (λ (entry : Entry). entry.row) in
    within_more (length (rows_in log)) n (eval shape ask log) (omega (arith, same, le)) (body_within shape ask (rows_in log))

module _ (shape : ShapeValue) (setup : SetupValue) (log : List Entry) where
  lives_kind : (lives : List Live) → AllByRecursion (IsMeant shape setup log) lives
      → AllByRecursion (λ live. is_body_of (ask_at setup live.ask) live.answer.body ≡ true) lives
  lives_kind [] meant = tt
  lives_kind (live ∷ lives) meant = (
    ap (is_body_of (ask_at setup live.ask)) meant.0 ∙ body_kind shape (ask_at setup live.ask) (rows_in (take live.answer.tail log)),
    lives_kind lives meant.1,
  )

  lives_within : (lives : List Live) → AllByRecursion (IsMeant shape setup log) lives → AllByRecursion (λ live. IsWithin (length log) live.answer.body) lives
  lives_within [] meant = tt
  lives_within (live ∷ lives) meant =
      let le : length (take live.answer.tail log) ≤ length log = omega (arith, length-take live.answer.tail log) in (
        subst (IsWithin (length log)) (sym meant.0) (within_log shape (ask_at setup live.ask) (take live.answer.tail log) (length log) le),
        lives_within lives meant.1,
      )

all_flat : {X Y : Type 0} (P : Y → Type 0) (f : X → List Y) → ((x : X) → All P (f x)) → (xs : List X) → All P (flat_map f xs)
all_flat P f each [] = All-nil P
all_flat P f each (x ∷ xs) = All-append P (f x) (flat_map f xs) (each x) (all_flat P f each xs)

-- the turns ask questions that exist
turns_exist : (n batches rounds : ℕ) (lives : List ℕ) → All (λ ask. ask < n) lives → All (λ (turn : Turn). turn.ask < n) (turns_of batches rounds lives)
turns_exist n batches rounds lives low =
    all_flat (λ (turn : Turn). turn.ask < n)
    (λ batch. flat_map (λ round. map (λ ask. record { batch = batch; round = round; ask = ask }) lives) (range_with_len 0 rounds))
    (λ batch. all_flat (λ (turn : Turn). turn.ask < n) (λ round. map (λ ask. record { batch = batch; round = round; ask = ask }) lives)
    (λ round. All-map (λ (turn : Turn). turn.ask < n) (λ ask. record { batch = batch; round = round; ask = ask }) lives low) (range_with_len 0 rounds))
    (range_with_len 0 batches)

from_turns : (n : ℕ) (lives : List Live) → AllByRecursion (λ (turn : Turn). turn.ask < n) (map (λ (at : Turn × ℕ). at.0) (map turn_of lives))
    → AllByRecursion (λ live. live.ask < n) lives
from_turns n [] low = tt
from_turns n (live ∷ lives) low = (low.0, from_turns n lives low.1)

module _ (setup : SetupValue) (shape : ShapeValue) (rounds : ℕ) (log : List Entry) (answered : LoadedValue) (lawful : IsSetup setup)
    (meant : AreMeant setup shape rounds log answered) where
  asks_exist : All (λ ask. ask < length setup.asks) setup.lives
  asks_exist = λ k d lt. ltb-true (get_or setup.lives k d) (length setup.asks)
      (AllPass-from_list_all (λ live. nat_lt live (length setup.asks)) setup.lives lawful.lives k d lt)

  pub are_answering : IsAnswering setup (length log) answered
  are_answering = record {
    finals = ap (λ (answers : List Answer). length answers) meant.finals ∙ length-map setup.asks (answer_on shape log);
    alerts = ap (λ (found : List (List Fired)). length found) meant.alerts ∙ length-map setup.triggers (λ trigger. marks_over shape trigger (rows_in log));
    lives = All-from_recursion (λ live. live.ask < length setup.asks) answered.lives
        (from_turns (length setup.asks) answered.lives
        (recursion_from_All (λ (turn : Turn). turn.ask < length setup.asks) (map (λ (at : Turn × ℕ). at.0) (map turn_of answered.lives))
        (subst (All (λ (turn : Turn). turn.ask < length setup.asks)) (sym meant.tails.turns)
        (turns_exist (length setup.asks) (batches_of (length log)) rounds setup.lives asks_exist))));
    final_kinds =
        subst (All (λ (told : AskReply Ask Body). is_body_of told.ask told.body ≡ true)) (sym (finals_meant setup shape rounds log answered meant))
        (All-map (λ (told : AskReply Ask Body). is_body_of told.ask told.body ≡ true) (told_on shape (rows_in log)) setup.asks
        (λ k d lt. body_kind shape (get_or setup.asks k d) (rows_in log)));
    final_places =
        subst (All (λ (answer : Answer). IsWithin (length log) answer.body)) (sym meant.finals)
        (All-map (λ (answer : Answer). IsWithin (length log) answer.body) (answer_on shape log) setup.asks
        (λ k d lt. within_log shape (get_or setup.asks k d) log (length log) (omega arith)));
    live_kinds = All-from_recursion (λ live. is_body_of (ask_at setup live.ask) live.answer.body ≡ true) answered.lives
        (lives_kind shape setup log answered.lives meant.lives);
    live_places = All-from_recursion (λ live. IsWithin (length log) live.answer.body) answered.lives (lives_within shape setup log answered.lives meant.lives);
  }
