-- Questions with their answers, by their places.
use Rattle.std.proofs.Common.{◌≡◌, ℕ, zero, suc, ◌<◌, List, [], ◌∷◌, length, get_or, refl, arith}
use Rattle.cf_plain.specs.History.{AskReply}
use Rattle.cf_plain.specs.declared.ask.Ask.{Ask}
use Rattle.cf_plain.specs.declared.answer.Answer.{Answer}
use Rattle.cf_plain.specs.declared.answer.Body.{Body}
use Rattle.cf_report.specs.Answered.{told_by, tolds_of}

-- the question at a place stands with the answer there
pub told_at : (asks : List Ask) (answers : List Answer) (place : ℕ) (ask : Ask) (answer : Answer) (other : AskReply Ask Body) → place < length asks
    → length answers ≡ length asks → get_or (tolds_of asks answers) place other ≡ told_by (get_or asks place ask) (get_or answers place answer)
told_at [] answers place ask answer other lt same = absurd (omega (arith, lt))
told_at (a ∷ asks) [] place ask answer other lt same = absurd (omega (arith, same))
told_at (a ∷ asks) (b ∷ answers) zero ask answer other lt same = refl
told_at (a ∷ asks) (b ∷ answers) (suc place) ask answer other lt same = told_at asks answers place ask answer other (omega (arith, lt)) (omega (arith, same))

pub length_tolds : (asks : List Ask) (answers : List Answer) → length answers ≡ length asks → length (tolds_of asks answers) ≡ length asks
length_tolds [] answers same = refl
length_tolds (a ∷ asks) [] same = absurd (omega (arith, same))
length_tolds (a ∷ asks) (b ∷ answers) same = omega (arith, length_tolds asks answers (omega (arith, same)))
