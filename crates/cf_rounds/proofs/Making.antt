-- A round is made, step by step.
use Rattle.std.proofs.Common.{◌≡◌, ◌∙◌, ℕ, ◌+◌, ◌-◌, ◌<◌, ◌≤◌, List, [], ◌∷◌, ◌++◌, length, Bool, true, false, if◌then◌else◌, refl, sym, ap, ap₂, subst, arith, append_assoc}
use Rattle.std.specs.List.{flat_map}
use Rattle.cf_setup.specs.Setups.{SetupValue}
use Rattle.cf_window.specs.Held.{WindowValue, count_of}
use Rattle.cf_window.specs.Windows.{rows_in_all}
use Rattle.cf_watch.specs.declared.watched.Watched.{Watched}
use Rattle.cf_rounds.specs.Held.{HasAsked, HasBeaten, RoundsValue, standing_in, view_in}
use Rattle.cf_rounds.specs.Lines.{RoundView, beat_text, end_text, is_beat, is_due, live_line, news_lines}
use Rattle.cf_rounds.specs.Streams.{after_round, round_text, told, view_of}
use Rattle.cf_rounds.proofs.Moving.{of_parts}

-- what a round sees of the window is what it sees of where the stream stands
pub view_same : (window : WindowValue) (kept : List Watched) (asked beaten last : ℕ) → view_of (standing_in window kept asked beaten last) ≡ view_in window kept last
view_same window kept asked beaten last =
    let from : count_of window - length (rows_in_all window.segments) ≡ window.from = omega arith in
    ap (λ (n : ℕ). record { from = n; to = count_of window; rows = rows_in_all window.segments; kept = kept; last = last }) from

-- nothing was due
pub not_asked : (old : RoundsValue) (text : List ℕ) → is_due (old.terms).every (old.now).asked (old.now).count ≡ false → HasAsked old text old text
not_asked old text none =
    subst (λ (due : Bool). (old ≡ record old { now = record old.now { asked = if due then (old.now).count else (old.now).asked } })
    × (text ≡ text ++ (if due then flat_map (live_line (old.terms).shape (old.terms).setup (view_of old.now)) ((old.terms).setup).lives else [])))
    (sym none) (refl, sym (Rattle.std.proofs.Common.append-nil text))

pub not_beaten : (is_last : Bool) (old : RoundsValue) (text : List ℕ) → is_beat is_last (old.terms).beat (old.now).beaten (old.now).count ≡ false
    → HasBeaten is_last old text old text
not_beaten is_last old text none =
    subst (λ (due : Bool). (old ≡ record old { now = record old.now { beaten = if due then (old.now).count else (old.now).beaten } })
    × (text ≡ text ++ (if due then beat_text (old.terms).shape (old.terms).setup (view_of old.now) else [])))
    (sym none) (refl, sym (Rattle.std.proofs.Common.append-nil text))

-- or it was
pub has_asked : (old : RoundsValue) (before after : List ℕ) → is_due (old.terms).every (old.now).asked (old.now).count ≡ true
    → after ≡ before ++ flat_map (live_line (old.terms).shape (old.terms).setup (view_of old.now)) ((old.terms).setup).lives
    → HasAsked old before (record old { now = record old.now { asked = (old.now).count } }) after
has_asked old before after due is =
    subst (λ (b : Bool). (record old { now = record old.now { asked = (old.now).count } }
    ≡ record old { now = record old.now { asked = if b then (old.now).count else (old.now).asked } })
    × (after ≡ before ++ (if b then flat_map (live_line (old.terms).shape (old.terms).setup (view_of old.now)) ((old.terms).setup).lives else [])))
    (sym due) (refl, is)

pub has_beaten : (is_last : Bool) (old : RoundsValue) (before after : List ℕ) → is_beat is_last (old.terms).beat (old.now).beaten (old.now).count ≡ true
    → after ≡ before ++ beat_text (old.terms).shape (old.terms).setup (view_of old.now)
    → HasBeaten is_last old before (record old { now = record old.now { beaten = (old.now).count } }) after
has_beaten is_last old before after due is =
    subst (λ (b : Bool). (record old { now = record old.now { beaten = (old.now).count } }
    ≡ record old { now = record old.now { beaten = if b then (old.now).count else (old.now).beaten } })
    × (after ≡ before ++ (if b then beat_text (old.terms).shape (old.terms).setup (view_of old.now) else [])))
    (sym due) (refl, is)

abbrev tell_in : RoundsValue → RoundsValue
tell_in old = record old { now = told old.terms old.now }

abbrev ask_in : RoundsValue → RoundsValue
ask_in old = record old { now = record old.now { asked = if is_due (old.terms).every (old.now).asked (old.now).count then (old.now).count else (old.now).asked } }

abbrev beat_in : Bool → RoundsValue → RoundsValue
beat_in is_last old =
    record old { now = record old.now { beaten = if is_beat is_last (old.terms).beat (old.now).beaten (old.now).count then (old.now).count else (old.now).beaten } }

abbrev asked_text : RoundsValue → List ℕ
asked_text old =
    if is_due (old.terms).every (old.now).asked (old.now).count then flat_map (live_line (old.terms).shape (old.terms).setup (view_of old.now)) ((old.terms).setup).lives else []

abbrev beaten_text : Bool → RoundsValue → List ℕ
beaten_text is_last old =
    if is_beat is_last (old.terms).beat (old.now).beaten (old.now).count then beat_text (old.terms).shape (old.terms).setup (view_of old.now) else []

-- the three steps of a round
pub round_made : (is_last : Bool) (old mid one two : RoundsValue) (t₀ t₁ t₂ t₃ : List ℕ) → mid ≡ tell_in old
    → t₁ ≡ t₀ ++ news_lines (old.terms).setup (old.now).count (old.now).kept → HasAsked mid t₁ one t₂ → HasBeaten is_last one t₂ two t₃
    → (two ≡ record old { now = after_round old.terms is_last old.now }) × (t₃ ≡ t₀ ++ round_text old.terms is_last old.now)
round_made is_last old mid one two t₀ t₁ t₂ t₃ mid_is fresh asked beaten =
    let one_is : one ≡ ask_in (tell_in old) = asked.0 ∙ ap ask_in mid_is in
    let lines : List ℕ = news_lines (old.terms).setup (old.now).count (old.now).kept in
    let lives : List ℕ = asked_text (tell_in old) in
    let beat : List ℕ = beaten_text is_last (ask_in (tell_in old)) in (
      beaten.0 ∙ ap (beat_in is_last) one_is,
      beaten.1 ∙ (ap₂ (λ (t : List ℕ) (r : RoundsValue). t ++ beaten_text is_last r) (asked.1 ∙ ap₂ (λ (t : List ℕ) (r : RoundsValue). t ++ asked_text r) fresh mid_is) one_is
          ∙ (ap (λ (t : List ℕ). t ++ beat) (append_assoc t₀ lines lives) ∙ append_assoc t₀ (lines ++ lives) beat)),
    )

-- the end behind the last round
pub round_ended : (old two : RoundsValue) (t₀ t₁ t₂ : List ℕ) → two ≡ record old { now = after_round old.terms true old.now }
    → t₁ ≡ t₀ ++ round_text old.terms true old.now → t₂ ≡ t₁ ++ end_text (two.terms).shape (two.terms).setup (view_of two.now)
    → t₂ ≡ t₀ ++ (round_text old.terms true old.now ++ end_text (old.terms).shape (old.terms).setup (view_of (after_round old.terms true old.now)))
round_ended old two t₀ t₁ t₂ is text ended =
    ended ∙ (ap₂ (λ (t : List ℕ) (r : RoundsValue). t ++ end_text (r.terms).shape (r.terms).setup (view_of r.now)) text is
    ∙ append_assoc t₀ (round_text old.terms true old.now) (end_text (old.terms).shape (old.terms).setup (view_of (after_round old.terms true old.now))))

-- The live questions of rounds that have these parts were asked.
pub asked_in : (setup : SetupValue) (w w' : WindowValue) (kept : List Watched) (every beat limit asked beaten last to : ℕ) (held : RoundsValue)
    (before after : List ℕ) → of_parts setup w kept every beat limit asked beaten last ≡ held → w' ≡ w → to ≡ count_of w → is_due every asked to ≡ true
    → ((last : ℕ) → after ≡ before ++ flat_map (live_line w.shape setup (view_in w kept last)) setup.lives)
    → HasAsked held before (of_parts setup w' kept every beat limit to beaten last) after
asked_in setup w w' kept every beat limit asked beaten last to held before after is same to_is due lines =
    subst (λ (r : RoundsValue). HasAsked r before (of_parts setup w' kept every beat limit to beaten last) after) is
    (subst (λ (v : WindowValue). HasAsked (of_parts setup w kept every beat limit asked beaten last) before (of_parts setup v kept every beat limit to beaten last) after)
    (sym same)
    (subst (λ (n : ℕ). HasAsked (of_parts setup w kept every beat limit asked beaten last) before (of_parts setup w kept every beat limit n beaten last) after)
    (sym to_is)
    (has_asked (of_parts setup w kept every beat limit asked beaten last) before after (subst (λ (n : ℕ). is_due every asked n ≡ true) to_is due)
    (lines last
    ∙ ap (λ (v : RoundView). before ++ flat_map (live_line w.shape setup v) setup.lives) (sym (view_same w kept asked beaten last))))))

-- The end of rounds that have these parts.
pub ended_in : (setup : SetupValue) (w : WindowValue) (kept : List Watched) (every beat limit asked beaten last : ℕ) (two : RoundsValue) (before after : List ℕ)
    → of_parts setup w kept every beat limit asked beaten last ≡ two → after ≡ before ++ end_text w.shape setup (view_in w kept last)
    → after ≡ before ++ end_text (two.terms).shape (two.terms).setup (view_of two.now)
ended_in setup w kept every beat limit asked beaten last two before after is ended =
    ended ∙ (ap (λ (v : RoundView). before ++ end_text w.shape setup v) (sym (view_same w kept asked beaten last))
    ∙ ap (λ (r : RoundsValue). before ++ end_text (r.terms).shape (r.terms).setup (view_of r.now)) is)
