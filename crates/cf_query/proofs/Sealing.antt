-- What was answered on a beginning of the log was told by the log.
use Rattle.std.proofs.Common.{◌∙◌, ℕ, ◌≤◌, List, [], ◌∷◌, length, take, length-take, ap, sym, arith}
use Rattle.std.specs.List.{AllByRecursion}
use Rattle.cf_row.specs.declared.row.Entry.{Entry}
use Rattle.cf_shape.specs.Lanes.{ShapeValue}
use Rattle.cf_history.specs.History.{AskReply, IsToldBy, AreToldBy}
use Rattle.cf_plain.specs.Asks.{eval}
use Rattle.cf_plain.specs.declared.ask.Ask.{Ask}
use Rattle.cf_plain.specs.declared.answer.Body.{Body}
use Rattle.cf_query.specs.Laws.{IsAskAnswered}

told_by : (shape : ShapeValue) (entries : List Entry) (t : AskReply Ask Body) → IsAskAnswered shape entries t → IsToldBy (eval shape) entries t
told_by shape entries t a =
    let long = ap (λ (es : List Entry). length es) a.begins in
    let short = length-take (length a.seen) entries in
    let tail = a.tail in
    let le : t.tail ≤ length entries = omega (arith, long, short, tail) in
    (le, a.body ∙ ap (λ (es : List Entry). eval shape t.ask es) (sym a.begins ∙ ap (λ (n : ℕ). take n entries) (sym a.tail)))

all_told : (shape : ShapeValue) (entries : List Entry) (tolds : List (AskReply Ask Body)) → AllByRecursion (IsAskAnswered shape entries) tolds
    → AllByRecursion (IsToldBy (eval shape) entries) tolds
all_told shape entries [] all = all
all_told shape entries (t ∷ tolds) all = (told_by shape entries t all.0, all_told shape entries tolds all.1)

pub are_told : (shape : ShapeValue) (entries : List Entry) (passes : List (List (AskReply Ask Body)))
    → AllByRecursion (AllByRecursion (IsAskAnswered shape entries)) passes → AreToldBy (eval shape) entries passes
are_told shape entries [] all = all
are_told shape entries (tolds ∷ passes) all = (all_told shape entries tolds all.0, are_told shape entries passes all.1)
