-- The lines of questions, and records that are told by their numbers.
use Rattle.std.proofs.Common.{◌≡◌, ◌∙◌, ℕ, ◌+◌, ◌<◌, true, false, List, [], ◌∷◌, ◌++◌, length, take, get_or, map, codes, decimal, refl, sym, ap, ap₂, append_assoc, append-nil}
use Rattle.std.specs.List.{flat_map}
use Rattle.std.proofs.lemmas.List.{length-map, take_more}
use Rattle.std.proofs.lemmas.List.Concat.{flat_map-append}
use Rattle.cf_plain.specs.declared.answer.Body.{Body}
use Rattle.cf_report.specs.Answered.{ask_at}
use Rattle.cf_report.specs.Bodies.{line, number_text, numbers_text, places_in, word_of}
use Rattle.cf_report.specs.Report.{ask_name}
use Rattle.cf_setup.specs.Setups.{SetupValue}
use Rattle.cf_shape.specs.Lanes.{ShapeValue}
use Rattle.cf_rounds.specs.Lines.{RoundView, body_on, final_line, live_head, live_line, told_from}

flat_map_map : (f : ℕ → List ℕ) (g : ℕ → ℕ) (xs : List ℕ) → flat_map f (map g xs) ≡ flat_map (λ x. f (g x)) xs
flat_map_map f g [] = refl
flat_map_map f g (x ∷ xs) = ap (λ (ys : List ℕ). f (g x) ++ ys) (flat_map_map f g xs)

-- the numbers of the records at some places
pub numbers_are : (from : ℕ) (places t₀ t₁ t₂ : List ℕ) → t₁ ≡ t₀ ++ (codes " " ++ decimal (length places) ++ codes ":")
    → t₂ ≡ t₁ ++ flat_map (λ place. number_text (from + place)) places → t₂ ≡ t₀ ++ numbers_text (map (λ place. from + place) places)
numbers_are from places t₀ t₁ t₂ e₁ e₂ =
    let each : flat_map number_text (map (λ place. from + place) places) ≡ flat_map (λ place. number_text (from + place)) places =
    flat_map_map number_text (λ place. from + place) places in
    let long : length (map (λ place. from + place) places) ≡ length places = length-map places (λ (place : ℕ). from + place) in
    let all : (codes " " ++ decimal (length places) ++ codes ":") ++ flat_map (λ place. number_text (from + place)) places
    ≡ numbers_text (map (λ place. from + place) places) = rw (long, each) refl in
    e₂ ∙ (ap (λ (t : List ℕ). t ++ flat_map (λ place. number_text (from + place)) places) e₁
    ∙ (append_assoc t₀ (codes " " ++ decimal (length places) ++ codes ":") (flat_map (λ place. number_text (from + place)) places)
    ∙ ap (λ (t : List ℕ). t₀ ++ t) all))

-- a body of another kind has no records
pub no_places : (from : ℕ) (body : Body) → places_in body ≡ [] → ◌≡◌ {A = List ℕ} [] (map (λ place. from + place) (places_in body))
no_places from body none = sym (ap (map (λ place. from + place)) none)

-- what was written piece by piece
behind : (t₀ t₁ t₂ t₃ head body : List ℕ) → t₁ ≡ t₀ ++ head → t₂ ≡ t₁ ++ body → t₃ ≡ t₂ ++ 10 ∷ [] → t₃ ≡ t₀ ++ line (head ++ body)
behind t₀ t₁ t₂ t₃ head body e₁ e₂ e₃ =
    e₃ ∙ (ap (λ (t : List ℕ). t ++ 10 ∷ []) (e₂ ∙ ap (λ (t : List ℕ). t ++ body) e₁)
    ∙ (ap (λ (t : List ℕ). t ++ 10 ∷ []) (append_assoc t₀ head body) ∙ append_assoc t₀ (head ++ body) (10 ∷ [])))

module _ (shape : ShapeValue) (setup : SetupValue) (view : RoundView) (place : ℕ) (name word : List ℕ) (body : Body) (t₀ t₁ t₂ t₃ : List ℕ)
    (name_is : name ≡ ask_name setup place) (word_is : word ≡ word_of (ask_at setup place)) where
  pub live_line_is : body ≡ body_on shape view false (ask_at setup place) → t₁ ≡ t₀ ++ live_head name view.from view.to word
      → t₂ ≡ t₁ ++ told_from view.from body → t₃ ≡ t₂ ++ 10 ∷ [] → t₃ ≡ t₀ ++ live_line shape setup view place
  live_line_is body_is e₁ e₂ e₃ =
      behind t₀ t₁ t₂ t₃ (live_head (ask_name setup place) view.from view.to (word_of (ask_at setup place)))
      (told_from view.from (body_on shape view false (ask_at setup place)))
      (e₁ ∙ ap₂ (λ (n w : List ℕ). t₀ ++ live_head n view.from view.to w) name_is word_is)
      (e₂ ∙ ap (λ (b : Body). t₁ ++ told_from view.from b) body_is) e₃

  pub final_line_is : body ≡ body_on shape view true (ask_at setup place) → t₁ ≡ t₀ ++ (codes "ask " ++ name ++ codes " " ++ word)
      → t₂ ≡ t₁ ++ told_from view.from body → t₃ ≡ t₂ ++ 10 ∷ [] → t₃ ≡ t₀ ++ final_line shape setup view place
  final_line_is body_is e₁ e₂ e₃ =
      behind t₀ t₁ t₂ t₃ (codes "ask " ++ ask_name setup place ++ codes " " ++ word_of (ask_at setup place))
      (told_from view.from (body_on shape view true (ask_at setup place)))
      (e₁ ∙ ap₂ (λ (n w : List ℕ). t₀ ++ (codes "ask " ++ n ++ codes " " ++ w)) name_is word_is)
      (e₂ ∙ ap (λ (b : Body). t₁ ++ told_from view.from b) body_is) e₃
      ∙ simp append_assoc

-- what was written of one element more of a list
pub step_list : {X : Type 0} (f : X → List ℕ) (xs : List X) (i : ℕ) (d : X) (start before after : List ℕ) → i < length xs
    → before ≡ start ++ flat_map f (take i xs) → after ≡ before ++ f (get_or xs i d) → after ≡ start ++ flat_map f (take (i + 1) xs)
step_list f xs i d start before after low was is =
    is ∙ (ap (λ (t : List ℕ). t ++ f (get_or xs i d)) was ∙ (append_assoc start (flat_map f (take i xs)) (f (get_or xs i d))
    ∙ ap (λ (t : List ℕ). start ++ t) (sym (ap (flat_map f) (take_more xs i d low) ∙ (flat_map-append f (take i xs) (get_or xs i d ∷ [])
    ∙ ap (λ (t : List ℕ). flat_map f (take i xs) ++ t) (append-nil (f (get_or xs i d))))))))

-- what was written in three parts
pub ended_by : (t₀ t₁ t₂ t₃ a b c : List ℕ) → t₁ ≡ t₀ ++ a → t₂ ≡ t₁ ++ b → t₃ ≡ t₂ ++ c → t₃ ≡ t₀ ++ ((a ++ b) ++ c)
ended_by t₀ t₁ t₂ t₃ a b c e₁ e₂ e₃ =
    e₃ ∙ (ap (λ (t : List ℕ). t ++ c) (e₂ ∙ (ap (λ (t : List ℕ). t ++ b) e₁ ∙ append_assoc t₀ a b)) ∙ append_assoc t₀ (a ++ b) c)
