-- What a round says is the same by what is left of records.
use Rattle.std.proofs.Common.{◌≡◌, ◌∙◌, ℕ, ◌-◌, ◌/◌, ◌^◌, Bool, true, false, cond, List, [], ◌++◌, length, map, refl, ap, ap₂}
use Rattle.std.specs.Prelude.{codes, decimal}
use Rattle.std.specs.List.{flat_map, range_with_len}
use Rattle.std.proofs.lemmas.List.{length-map}
use mathlib.Core.Path.{fun_ext}
use Rattle.cf_row.specs.Row.{RowValue}
use Rattle.cf_shape.specs.Lanes.{IsShape, ShapeValue}
use Rattle.cf_setup.specs.Setups.{SetupValue}
use Rattle.cf_plain.specs.Answered.{no_ask}
use Rattle.cf_plain.specs.declared.answer.Body.{Body}
use Rattle.cf_plain.specs.declared.ask.Ask.{Ask}
use Rattle.cf_plain.specs.declared.ask.Ask.TheVariants as asks
use Rattle.cf_report.specs.Answered.{ask_at}
use Rattle.cf_report.specs.Bodies.{line, word_of}
use Rattle.cf_report.specs.Report.{alert_lines_at, ask_name}
use Rattle.cf_rounds.specs.Lanes.{kept_at, marks_by}
use Rattle.cf_rounds.specs.Lines.{RoundView, beat_text, body_on, end_text, final_line, is_beat, is_due, lane_name, live_head, live_line, news_lines, told_from, total_line, total_line_at}
use Rattle.cf_rounds.specs.Streams.{Standing, Terms, round_text, told, view_of}
use Rattle.cf_project.specs.Named.{KeepsAsks, KeepsShape, keeps_ask}
use Rattle.cf_project.specs.Projected.{ask_kept, shape_kept}
use Rattle.cf_project.specs.Setups.{setup_kept}
use Rattle.cf_project.proofs.Keeping.{all_at, map_at}
use Rattle.cf_project.proofs.Found.{answers_same}
use Rattle.cf_follow.specs.LeftStreams.{KeepsTerms, rows_left, standing_left, terms_left}
use Rattle.cf_follow.proofs.LeftLanes.{aggregate_same}
use Rattle.cf_follow.proofs.LeftWindows.{all_same, many_same}

word_same : (marks : List Bool) (ask : Ask) → word_of (ask_kept marks ask) ≡ word_of ask
word_same marks (asks.List expr) = refl
word_same marks (asks.Find lane low high) = refl
word_same marks (asks.Between lane low high) = refl
word_same marks (asks.Measure lane low high) = refl
word_same marks (asks.Fired trigger) = refl
word_same marks (asks.Top lane part n) = refl
word_same marks (asks.Groups lane) = refl
word_same marks (asks.Total attr expr) = refl

ask_at_same : (marks : List Bool) (setup : SetupValue) (place : ℕ) → ask_at (setup_kept marks setup) place ≡ ask_kept marks (ask_at setup place)
ask_at_same marks setup place = map_at (ask_kept marks) setup.asks place no_ask

-- what a round sees of what is left
abbrev pub view_left : List Bool → RoundView → RoundView
view_left marks view = record view { rows = rows_left marks view.rows }

abbrev view_with : Standing → ℕ → List RowValue → RoundView
view_with now many rows = record { from = now.count - many; to = now.count; rows = rows; kept = now.kept; last = now.last }

pub view_same : (marks : List Bool) (now : Standing) → view_of (standing_left marks now) ≡ view_left marks (view_of now)
view_same marks now = ap₂ (view_with now) (many_same marks now.segments) (all_same marks now.segments)

module _ (marks : List Bool) (shape : ShapeValue) (keeps : KeepsShape marks shape) (lawful : IsShape shape) where
  abbrev less : ShapeValue
  less = shape_kept marks shape

  body_same : (view : RoundView) (is_final : Bool) (ask : Ask) → keeps_ask marks ask ≡ true
      → body_on less (view_left marks view) is_final (ask_kept marks ask) ≡ body_on shape view is_final ask
  body_same view is_final (asks.List expr) is = answers_same marks shape keeps lawful view.rows (asks.List expr) is
  body_same view is_final (asks.Find lane low high) is = answers_same marks shape keeps lawful view.rows (asks.Find lane low high) is
  body_same view is_final (asks.Between lane low high) is = answers_same marks shape keeps lawful view.rows (asks.Between lane low high) is
  body_same view is_final (asks.Measure lane low high) is = answers_same marks shape keeps lawful view.rows (asks.Measure lane low high) is
  body_same view is_final (asks.Fired trigger) is = refl
  body_same view is_final (asks.Top lane part n) is = answers_same marks shape keeps lawful view.rows (asks.Top lane part n) is
  body_same view is_final (asks.Groups lane) is = answers_same marks shape keeps lawful view.rows (asks.Groups lane) is
  body_same view is_final (asks.Total attr expr) is = answers_same marks shape keeps lawful view.rows (asks.Total attr expr) is

  module _ (setup : SetupValue) (named : KeepsAsks marks setup.asks) (view : RoundView) where
    abbrev lean : SetupValue
    lean = setup_kept marks setup

    abbrev seen : RoundView
    seen = view_left marks view

    keeps_at : (place : ℕ) → keeps_ask marks (ask_at setup place) ≡ true
    keeps_at place = all_at (keeps_ask marks) setup.asks place no_ask named refl

    body_at : (is_final : Bool) (place : ℕ)
        → body_on less seen is_final (ask_kept marks (ask_at setup place)) ≡ body_on shape view is_final (ask_at setup place)
    body_at is_final place = body_same view is_final (ask_at setup place) (keeps_at place)

    abbrev live_with : ℕ → List ℕ → Body → List ℕ
    live_with place word body = line (live_head (ask_name setup place) view.from view.to word ++ told_from view.from body)

    live_same : (place : ℕ) → live_line less lean seen place ≡ live_line shape setup view place
    live_same place =
        ap (λ (ask : Ask). live_with place (word_of ask) (body_on less seen false ask)) (ask_at_same marks setup place)
        ∙ ap₂ (live_with place) (word_same marks (ask_at setup place)) (body_at false place)

    abbrev final_with : ℕ → List ℕ → Body → List ℕ
    final_with place word body = line (codes "ask " ++ ask_name setup place ++ codes " " ++ word ++ told_from view.from body)

    final_same : (place : ℕ) → final_line less lean seen place ≡ final_line shape setup view place
    final_same place =
        ap (λ (ask : Ask). final_with place (word_of ask) (body_on less seen true ask)) (ask_at_same marks setup place)
        ∙ ap₂ (final_with place) (word_same marks (ask_at setup place)) (body_at true place)

    total_same : (lane : ℕ) → total_line_at less lean seen lane ≡ total_line_at shape setup view lane
    total_same lane =
        ap (λ (b : Bool). cond b (total_line (lane_name setup lane) (kept_at view.kept lane)) []) (aggregate_same marks shape keeps lawful lane)

    pub beat_same : beat_text less lean seen ≡ beat_text shape setup view
    beat_same =
        ap (λ (f : ℕ → List ℕ). line (codes "at " ++ decimal view.to ++ codes " " ++ decimal (view.last / 10 ^ 9))
        ++ flat_map f (range_with_len 0 (length setup.lane_names)))
        (fun_ext total_same)

    pub lives_same : flat_map (live_line less lean seen) setup.lives ≡ flat_map (live_line shape setup view) setup.lives
    lives_same = ap (λ (f : ℕ → List ℕ). flat_map f setup.lives) (fun_ext live_same)

    pub end_same : end_text less lean seen ≡ end_text shape setup view
    end_same =
        ap₂ (λ (f : ℕ → List ℕ) (n : ℕ). line (codes "records " ++ decimal view.to)
        ++ line (codes "window " ++ decimal view.from)
        ++ flat_map f (range_with_len 0 n)
        ++ flat_map (alert_lines_at setup (map (marks_by view.kept true) setup.triggers)) (range_with_len 0 (length setup.triggers)))
        (fun_ext final_same) (length-map setup.asks (ask_kept marks))

module _ (marks : List Bool) (terms : Terms) (keeps : KeepsTerms marks terms) where
  abbrev due_text : Bool → Standing → List ℕ → List ℕ → List ℕ
  due_text is_last now lives beat =
      news_lines terms.setup now.count now.kept
      ++ cond (is_due terms.every now.asked now.count) lives []
      ++ cond (is_beat is_last terms.beat now.beaten now.count) beat []

  abbrev lean_terms : Terms
  lean_terms = terms_left marks terms

  pub round_same : (is_last : Bool) (now : Standing) → round_text lean_terms is_last (standing_left marks now) ≡ round_text terms is_last now
  round_same is_last now =
      let view : RoundView = view_of (told terms now) in
      ap (λ (seen : RoundView). due_text is_last now (flat_map (live_line lean_terms.shape lean_terms.setup seen) (terms.setup).lives)
      (beat_text lean_terms.shape lean_terms.setup seen)) (view_same marks (told terms now))
      ∙ ap₂ (due_text is_last now) (lives_same marks terms.shape keeps.shape keeps.lawful terms.setup keeps.asks view)
      (beat_same marks terms.shape keeps.shape keeps.lawful terms.setup keeps.asks view)

  pub ending_same : (now : Standing)
      → end_text lean_terms.shape lean_terms.setup (view_of (standing_left marks now)) ≡ end_text terms.shape terms.setup (view_of now)
  ending_same now =
      ap (end_text lean_terms.shape lean_terms.setup) (view_same marks now)
      ∙ end_same marks terms.shape keeps.shape keeps.lawful terms.setup keeps.asks (view_of now)
