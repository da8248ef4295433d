-- What questions found is joined.
use Rattle.std.proofs.Common.{◌≡◌, ◌∙◌, ℕ, suc, ◌+◌, ◌<◌, ◌^◌, List, [], ◌∷◌, ◌++◌, length, map, take, drop, refl, sym, ap, ap₂, arith}
use Rattle.std.proofs.Math.Seq.{take-append_seam}
use Rattle.std.proofs.lemmas.List.{drop_at, length-map, map-append}
use Rattle.std.specs.List.{AllZip}
use Rattle.cf_row.specs.Row.{RowValue}
use Rattle.cf_shape.specs.Lanes.{ShapeValue}
use Rattle.cf_fold.specs.declared.trigger.Trigger.{Trigger}
use Rattle.cf_plain.specs.Asks.{eval_rows, marks_over}
use Rattle.cf_plain.specs.Segments.{CanJoin}
use Rattle.cf_plain.specs.declared.answer.Body.{Body}
use Rattle.cf_plain.specs.declared.answer.Fired.{Fired}
use Rattle.cf_plain.specs.declared.ask.Ask.{Ask}
use Rattle.cf_plain.specs.declared.ask.Ask.TheVariants as asks_are
use Rattle.cf_plain.specs.declared.finding.Finding.{Finding}
use Rattle.cf_plain.proofs.Joined.{findings_can_join, findings_join, findings_tell}
use Rattle.cf_report.specs.Report.{marks_of}
use Rattle.cf_long.specs.Found.{body_of_each, found_in, joined_each}

module _ (shape : ShapeValue) (rows others : List RowValue) where
  pub can_join_each : length rows + length others < 2 ^ 32 → (asks : List Ask)
      → AllZip (CanJoin (length rows)) (found_in shape asks rows) (found_in shape asks others)
  can_join_each few [] = tt
  can_join_each few (ask ∷ asks) = (findings_can_join shape ask rows others few, can_join_each few asks)

  pub joined_in : (asks : List Ask) → joined_each (length rows) (found_in shape asks rows) (found_in shape asks others) ≡ found_in shape asks (rows ++ others)
  joined_in [] = refl
  joined_in (ask ∷ asks) = ap₂ (λ (f : Finding) (fs : List Finding). f ∷ fs) (findings_join shape ask rows others) (joined_in asks)

  -- each question's answer by what it found
  pub told_each : (asks : List Ask) → body_of_each asks (found_in shape asks rows) ≡ map (λ ask. eval_rows shape ask rows) asks
  told_each [] = refl
  told_each (ask ∷ asks) = ap₂ (λ (b : Body) (bs : List Body). b ∷ bs) (findings_tell shape ask rows) (told_each asks)

  -- the marks of triggers
  pub marks_told : (triggers : List Trigger)
      → map marks_of (map (λ ask. eval_rows shape ask rows) (map (λ (t : Trigger). asks_are.Fired t) triggers)) ≡ map (λ t. marks_over shape t rows) triggers
  marks_told [] = refl
  marks_told (t ∷ triggers) = ap (λ (ms : List (List Fired)). marks_over shape t rows ∷ ms) (marks_told triggers)

-- there are as many
pub each_long : (asks : List Ask) (found : List Finding) → length found ≡ length asks → length (body_of_each asks found) ≡ length asks
each_long [] found same = refl
each_long (ask ∷ asks) [] same = absurd (cc same)
each_long (ask ∷ asks) (f ∷ found) same = ap suc (each_long asks found (omega (arith, same)))

-- the answers of the questions, and behind them those of the triggers
pub front : (f : Ask → Body) (asks : List Ask) (ts : List Trigger) (all : List Body) (n : ℕ)
    → all ≡ map f (asks ++ map (λ (t : Trigger). asks_are.Fired t) ts) → n ≡ length asks → take n all ≡ map f asks
front f asks ts all n is long =
    let fired = map (λ (t : Trigger). asks_are.Fired t) ts in
    ap (take n) (is ∙ map-append f asks fired)
    ∙ (ap (λ (k : ℕ). take k (map f asks ++ map f fired)) (long ∙ sym (length-map asks f)) ∙ take-append_seam (map f asks) (map f fired))

pub back : (f : Ask → Body) (asks : List Ask) (ts : List Trigger) (all : List Body) (n : ℕ)
    → all ≡ map f (asks ++ map (λ (t : Trigger). asks_are.Fired t) ts) → n ≡ length asks → drop n all ≡ map f (map (λ (t : Trigger). asks_are.Fired t) ts)
back f asks ts all n is long =
    let fired = map (λ (t : Trigger). asks_are.Fired t) ts in
    ap (drop n) (is ∙ map-append f asks fired)
    ∙ (ap (λ (k : ℕ). drop k (map f asks ++ map f fired)) (long ∙ sym (length-map asks f))
    ∙ drop_at (map f asks) (map f fired) (length (map f asks)) refl)
