-- Questions are asked one after the other, of the same records.
use Rattle.std.proofs.Common.{◌≡◌, ◌∙◌, ◌+◌, ◌<◌, ◌++◌, get_or, ℕ, List, [], ◌∷◌, length, map, take, ap, ap₂, sym, subst}
use Rattle.std.proofs.lemmas.List.{map_push, take_more}
use Rattle.cf_row.specs.declared.row.Entry.{Entry}
use Rattle.cf_shape.specs.Lanes.{ShapeValue}
use Rattle.cf_plain.specs.Asks.{eval}
use Rattle.cf_plain.specs.Answered.{answer_on}
use Rattle.cf_plain.specs.declared.ask.Ask.{Ask}
use Rattle.cf_plain.specs.declared.answer.Answer.{Answer}
use Rattle.cf_table.specs.Values.{PassValue}
use Rattle.cf_query.specs.Walks.{OnlyWalked}

seen_still : (m n : PassValue) → OnlyWalked m n → (n.view).seen ≡ (m.view).seen
seen_still m n walked = ap (λ (h : PassValue). (h.view).seen) walked.same

-- one answer more
pub answers_more : (shape : ShapeValue) (m n : PassValue) (questions : List Ask) (old new : List Answer) (i : ℕ) (question : Ask) (answer : Answer)
    → OnlyWalked m n → old ≡ map (answer_on shape (m.view).seen) (take i questions) → i < length questions → question ≡ get_or questions i question
    → (answer.tail ≡ length (m.view).seen) × (answer.body ≡ eval shape question (m.view).seen) → new ≡ old ++ answer ∷ []
    → new ≡ map (answer_on shape (n.view).seen) (take (i + 1) questions)
answers_more shape m n questions old new i question answer walked is lt at ok more =
    let f = answer_on shape (m.view).seen in
    let same : answer ≡ f question = ap₂ (λ tail body. record { tail = tail; body = body }) ok.0 ok.1 in
    let all : new ≡ map f (take (i + 1) questions) = more
    ∙ (ap₂ (λ made a. made ++ a ∷ []) is (same ∙ ap f at)
    ∙ (sym (map_push f (take i questions) (get_or questions i question)) ∙ ap (map f) (sym (take_more questions i question lt)))) in
    subst (λ (es : List Entry). new ≡ map (answer_on shape es) (take (i + 1) questions)) (sym (seen_still m n walked)) all
