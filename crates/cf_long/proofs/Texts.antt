-- The text of answers about rows that are numbered from 0.
use Rattle.std.proofs.Common.{◌≡◌, ◌∙◌, ℕ, zero, suc, ◌+◌, ◌<◌, ◌≤◌, Bool, List, [], ◌++◌, length, map, codes, decimal, get_or, refl, sym, ap, ap₂, arith}
use Rattle.std.specs.List.{flat_map, range_with_len}
use Rattle.std.proofs.lemmas.List.{get_or-map}
use Rattle.cf_row.specs.Row.{RowValue}
use Rattle.cf_fold.specs.Sort.{sort}
use Rattle.cf_plain.specs.History.{AskReply}
use Rattle.cf_shape.specs.Lanes.{ShapeValue}
use Rattle.cf_plain.specs.Answered.{no_ask}
use Rattle.cf_plain.specs.Asks.{counts_for, eval_rows, places, row_at}
use Rattle.cf_plain.specs.declared.answer.Body.{Body}
use Rattle.cf_plain.specs.declared.answer.Fired.{Fired}
use Rattle.cf_plain.specs.declared.ask.Ask.{Ask}
use Rattle.cf_plain.specs.declared.ask.Ask.TheVariants as asks
use Rattle.cf_report.specs.Answered.{ask_at}
use Rattle.cf_report.specs.Bodies.{line, nums_at, numbers_text, shown, word_of}
use Rattle.cf_report.specs.Meaning.{final_text, finals_on, told_on}
use Rattle.cf_report.specs.Report.{alert_lines_at, ask_line, ask_line_at, ask_name, nothing_told}
use Rattle.cf_setup.specs.Setups.{SetupValue}
use Rattle.cf_long.specs.Answered.{AreAnswers}
use Rattle.cf_long.specs.ByRow.{AreNumbered}
use Rattle.cf_long.specs.Texts.{no_body, placed_line, placed_line_at}
use Rattle.cf_long.specs.declared.answers.Answers.{Answers}
use Rattle.cf_long.proofs.ByRow.{all_stay, climbs_range, in_range, sorted_stay}

flat_range : (f g : ℕ → List ℕ) (k n : ℕ) → ((i : ℕ) → i < k + n → f i ≡ g i) → flat_map f (range_with_len k n) ≡ flat_map g (range_with_len k n)
flat_range f g k zero same = refl
flat_range f g k (suc n) same =
    ap₂ (λ (xs ys : List ℕ). xs ++ ys) (same k (omega arith)) (flat_range f g (k + 1) n (λ i low. same i (omega (arith, low))))

module _ (shape : ShapeValue) (rows : List RowValue) (numbered : AreNumbered 0 rows) where
  same_nums : (p : RowValue → Bool) → places p rows ≡ sort (nums_at rows (places p rows))
  same_nums p =
      let up = climbs_range (λ place. p (row_at rows place)) 0 (length rows) in
      sym (ap sort (all_stay (λ place. (row_at rows place).num) (λ m. (0 ≤ m) × (m < 0 + length rows))
      (λ m at. (let low = at.1 in numbered m (omega (arith, low)) ∙ omega arith))
      (places p rows) (in_range (λ place. p (row_at rows place)) 0 (length rows)))
      ∙ sorted_stay (places p rows) up)

  same_shown : (ask : Ask) → shown (λ ps. ps) (eval_rows shape ask rows) ≡ shown (λ ps. sort (nums_at rows ps)) (eval_rows shape ask rows)
  same_shown (asks.List expr) = ap numbers_text (same_nums (counts_for shape (asks.List expr)))
  same_shown (asks.Find lane low high) = ap numbers_text (same_nums (counts_for shape (asks.Find lane low high)))
  same_shown (asks.Between lane low high) = ap numbers_text (same_nums (counts_for shape (asks.Between lane low high)))
  same_shown (asks.Measure lane low high) = refl
  same_shown (asks.Fired trigger) = refl
  same_shown (asks.Top lane part count) = refl
  same_shown (asks.Groups lane) = refl
  same_shown (asks.Total attr expr) = refl

  module _ (setup : SetupValue) (finals : List Body) (are : finals ≡ map (λ ask. eval_rows shape ask rows) setup.asks) where
    same_line : (place : ℕ) → place < length setup.asks → placed_line_at setup finals place ≡ ask_line_at setup rows (finals_on shape setup rows) place
    same_line place low =
        let ask = ask_at setup place in
        let body : get_or finals place no_body ≡ eval_rows shape ask rows =
        ap (λ (bs : List Body). get_or bs place no_body) are ∙ get_or-map (λ a. eval_rows shape a rows) setup.asks place no_ask no_body low in
        ap (placed_line setup place) body
        ∙ (ap (λ (text : List ℕ). line (codes "ask " ++ ask_name setup place ++ codes " " ++ word_of ask ++ text)) (same_shown ask)
        ∙ ap (λ (told : AskReply Ask Body). ask_line (ask_name setup place) rows told)
        (sym (get_or-map (told_on shape rows) setup.asks place no_ask nothing_told low)))

    pub same_lines : flat_map (placed_line_at setup finals) (range_with_len 0 (length setup.asks))
        ≡ flat_map (ask_line_at setup rows (finals_on shape setup rows)) (range_with_len 0 (length setup.asks))
    same_lines = flat_range (placed_line_at setup finals) (ask_line_at setup rows (finals_on shape setup rows)) 0 (length setup.asks)
        (λ i low. same_line i (omega (arith, low)))

  -- what is written piece by piece is the final part
  pub final_is : (setup : SetupValue) (answers : Answers) (none t₁ t₂ t₃ : List ℕ) (finals : List Body) (alerts : List (List Fired))
      → AreAnswers shape setup.asks setup.triggers rows answers → finals ≡ answers.finals.items → alerts ≡ answers.alerts.items → none ≡ []
      → t₁ ≡ none ++ line (codes "records " ++ decimal answers.count)
      → t₂ ≡ t₁ ++ flat_map (placed_line_at setup finals) (range_with_len 0 (length setup.asks))
      → t₃ ≡ t₂ ++ flat_map (alert_lines_at setup alerts) (range_with_len 0 (length setup.triggers))
      → t₃ ≡ final_text shape setup rows
  final_is setup answers none t₁ t₂ t₃ finals alerts are finals_are alerts_are e₀ e₁ e₂ e₃ =
      let head : t₁ ≡ line (codes "records " ++ decimal (length rows)) =
      e₁ ∙ ap₂ (λ (t : List ℕ) (n : ℕ). t ++ line (codes "records " ++ decimal n)) e₀ are.count in
      let asked : t₂ ≡ line (codes "records " ++ decimal (length rows))
      ++ flat_map (ask_line_at setup rows (finals_on shape setup rows)) (range_with_len 0 (length setup.asks)) =
      e₂ ∙ ap₂ (λ (xs ys : List ℕ). xs ++ ys) head (same_lines setup finals (finals_are ∙ are.finals)) in
      e₃
      ∙ ap₂ (λ (t : List ℕ) (found : List (List Fired)). t ++ flat_map (alert_lines_at setup found) (range_with_len 0 (length setup.triggers)))
      asked (alerts_are ∙ are.alerts)
