-- One more live answer.
use Rattle.std.proofs.Common.{◌≡◌, ℕ, ◌+◌, ◌-◌, ◌<◌, ◌≤◌, Bool, true, cond, ◌==◌, List, [], ◌∷◌, ◌++◌, length, take, drop, filter, get_or, Option, Some, None, refl, sym, ap, ap₂, ◌∙◌, arith, append_assoc}
use Rattle.std.proofs.lemmas.Bool.{eq-eqb}
use Rattle.std.proofs.lemmas.List.{take_more, drop_more, get_or_default}
use Rattle.std.proofs.lemmas.List.Elements.{filter-append}
use Rattle.std.specs.List.{last_or}
use Rattle.cf_row.specs.Row.{RowValue}
use Rattle.cf_plain.specs.declared.loaded.Live.{Live}
use Rattle.cf_setup.specs.Setups.{SetupValue}
use Rattle.cf_report.specs.Report.{marks_of, marks_of_live, marks_before, live_line, new_line, live_lines}

last_or_push : (o : Option Live) (xs : List Live) (y : Live) → last_or o (xs ++ y ∷ []) ≡ Some y
last_or_push o [] y = refl
last_or_push o (x ∷ xs) y = last_or_push (Some x) xs y

pub before_found : (earlier : List Live) (place ask : ℕ) (x y : Live) → 0 < place → place ≤ length earlier → x ≡ get_or earlier (place - 1) x
    → y ≡ get_or earlier (place - 1) y → (get_or earlier (place - 1) x).ask ≡ ask → marks_of y.answer.body ≡ marks_before (take place earlier) ask
before_found earlier place ask x y some within x_is y_is asked =
    let at : place - 1 + 1 ≡ place = omega arith in
    let lt : place - 1 < length earlier = omega arith in
    let same : get_or earlier (place - 1) x ≡ y = get_or_default earlier (place - 1) x y lt ∙ sym y_is in
    let more : take place earlier ≡ take (place - 1) earlier ++ y ∷ [] = ap (λ n. take n earlier) (sym at) ∙ take_more earlier (place - 1) y lt
    ∙ ap (λ (l : Live). take (place - 1) earlier ++ l ∷ []) (sym y_is) in
    let own : (y.ask == ask) ≡ true = eq-eqb y.ask ask (ap (λ (l : Live). l.ask) (sym same) ∙ asked) in
    let kept : filter (λ (l : Live). l.ask == ask) (take place earlier) ≡ filter (λ (l : Live). l.ask == ask) (take (place - 1) earlier) ++ y ∷ [] =
    ap (filter (λ (l : Live). l.ask == ask)) more ∙ filter-append (λ (l : Live). l.ask == ask) (take (place - 1) earlier) (y ∷ [])
    ∙ ap (λ (b : Bool). filter (λ (l : Live). l.ask == ask) (take (place - 1) earlier) ++ cond b (y ∷ []) []) own in
    sym (ap (λ (ls : List Live). marks_of_live (last_or None ls)) kept
    ∙ ap marks_of_live (last_or_push None (filter (λ (l : Live). l.ask == ask) (take (place - 1) earlier)) y))

pub lives_step : (q : SetupValue) (rows : List RowValue) (lives : List Live) (place : ℕ) (x : Live) (text after all : List ℕ) → place < length lives
    → x ≡ get_or lives place x → text ++ live_lines q rows (take place lives) (drop place lives) ≡ all
    → after ≡ text ++ (live_line q rows x ++ new_line q (take place lives) x x.answer.body)
    → after ++ live_lines q rows (take (place + 1) lives) (drop (place + 1) lives) ≡ all
lives_step q rows lives place x text after all lt x_is was is =
    let front : take (place + 1) lives ≡ take place lives ++ x ∷ [] = take_more lives place x lt ∙ ap (λ (l : Live). take place lives ++ l ∷ []) (sym x_is) in
    let back : drop place lives ≡ x ∷ drop (place + 1) lives = drop_more lives place x lt ∙ ap (λ (l : Live). l ∷ drop (place + 1) lives) (sym x_is) in
    let lines = live_line q rows x in
    let news = new_line q (take place lives) x x.answer.body in
    let rest = live_lines q rows (take place lives ++ x ∷ []) (drop (place + 1) lives) in
    ap₂ (λ (a : List ℕ) (ls : List Live). a ++ live_lines q rows ls (drop (place + 1) lives)) is front
    ∙ append_assoc text (lines ++ news) rest
    ∙ ap (λ (ls : List Live). text ++ live_lines q rows (take place lives) ls) (sym back)
    ∙ was
