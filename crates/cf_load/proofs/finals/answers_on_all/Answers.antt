use Rattle.std.proofs.Common.{◌≡◌, ℕ, List, ◌++◌, length, map, take, drop, refl, sym, ap, ◌∙◌, rules}
use Rattle.std.proofs.lemmas.List.{drop_at, length-map, map-append}
use Rattle.std.proofs.lemmas.List.Elements.{All-append, All-map}
use Rattle.std.proofs.Math.Seq.{take-append_seam}
use Rattle.cf_fold.specs.declared.trigger.Trigger.{Trigger}
use Rattle.cf_plain.specs.Asks.{Suits}
use Rattle.cf_plain.specs.Answered.{LoadedValue, answer_on}
use Rattle.cf_plain.specs.declared.answer.Answer.{Answer}
use Rattle.cf_plain.specs.declared.ask.Ask.{Ask}
use Rattle.cf_plain.specs.declared.ask.Ask.TheVariants.{Fired}
use Rattle.cf_load.specs.Planned.{body_of, marks_on}
use Rattle.cf_segments.specs.Segments.{entries_of}
use Rattle.cf_load.proofs.Asking.{are_marks, marks_same, marks_told}
use Rattle.cf_segments.proofs.Kept.{all_none}
use Rattle.cf_load.proofs.finals.answers_on_all.Goals as goal

-- what each trigger asks
abbrev fired : List Trigger → List Ask
fired ts = map (λ (t : Trigger). Fired t) ts

-- the answers of the questions, and behind them those of the triggers
front : (f : Ask → Answer) (asks : List Ask) (ts : List Trigger) (all : List Answer) (n : ℕ) → all ≡ map f (asks ++ fired ts) → n ≡ length asks
    → take n all ≡ map f asks
front f asks ts all n is long = ap (take n) (is ∙ map-append f asks (fired ts))
    ∙ (ap (λ (k : ℕ). take k (map f asks ++ map f (fired ts))) (long ∙ sym (length-map asks f)) ∙ take-append_seam (map f asks) (map f (fired ts)))

back : (f : Ask → Answer) (asks : List Ask) (ts : List Trigger) (all : List Answer) (n : ℕ) → all ≡ map f (asks ++ fired ts) → n ≡ length asks
    → drop n all ≡ map f (fired ts)
back f asks ts all n is long = ap (drop n) (is ∙ map-append f asks (fired ts))
    ∙ (ap (λ (k : ℕ). drop k (map f asks ++ map f (fired ts))) (long ∙ sym (length-map asks f))
    ∙ drop_at (map f asks) (map f (fired ts)) (length (map f asks)) refl)

pub answers_to-requires : goal.answers_to-requires
answers_to-requires g c =
    let shape = c.args.segments.now.shape in
    let plan = c.args.plan.now in (
      search rules,
      rw c.in_ok-asks.ensures
          (All-append (Suits shape) plan.asks.items (fired plan.triggers.items) c.requires.plan.asks
          (All-map (Suits shape) (λ (t : Trigger). Fired t) plan.triggers.items c.requires.plan.triggers)),
    )

pub returns-in_err-asks-clause-keeps : goal.returns-in_err-asks-clause-keeps
returns-in_err-asks-clause-keeps g c = all_none c.args.segments.now

pub marks_in-requires : goal.marks_in-requires
marks_in-requires g c =
    let s = c.args.segments.now in
    let plan = c.args.plan.now in
    let f = answer_on s.shape (entries_of s) in
    let all = c.in_ok-finals.ensures.answers ∙ ap (map f) c.in_ok-asks.ensures in
    let len : c.len.result ≡ length plan.asks.items = search rules in
    let tail : c.in_ok-fired.fired.items ≡ map f (fired plan.triggers.items) =
    c.in_ok-fired.ensures.tail ∙ back f plan.asks.items plan.triggers.items c.in_ok-finals.finals.items c.len.result all len in
    record { marks = rw tail (are_marks s.shape (entries_of s) plan.triggers.items) }

pub returns-clause-finals : goal.returns-clause-finals
returns-clause-finals g c =
    let s = c.args.segments.now in
    let plan = c.args.plan.now in
    let f = answer_on s.shape (entries_of s) in
    let all = c.in_ok-finals.ensures.answers ∙ ap (map f) c.in_ok-asks.ensures in
    let len : c.len.result ≡ length plan.asks.items = search rules in
    ap (λ (l : LoadedValue). l.finals) c.new.ensures
    ∙ (c.in_ok-fired.ensures.items ∙ front f plan.asks.items plan.triggers.items c.in_ok-finals.finals.items c.len.result all len)

pub returns-clause-alerts : goal.returns-clause-alerts
returns-clause-alerts g c =
    let s = c.args.segments.now in
    let plan = c.args.plan.now in
    let f = answer_on s.shape (entries_of s) in
    let all = c.in_ok-finals.ensures.answers ∙ ap (map f) c.in_ok-asks.ensures in
    let len : c.len.result ≡ length plan.asks.items = search rules in
    let tail : c.in_ok-fired.fired.items ≡ map f (fired plan.triggers.items) =
    c.in_ok-fired.ensures.tail ∙ back f plan.asks.items plan.triggers.items c.in_ok-finals.finals.items c.len.result all len in
    ap (λ (l : LoadedValue). l.alerts) c.new.ensures
    ∙ marks_same c.in_ok-alerts.alerts.items (map (marks_on s.shape (entries_of s)) plan.triggers.items)
    (sym c.in_ok-alerts.ensures ∙ (ap (map body_of) tail ∙ marks_told s.shape (entries_of s) plan.triggers.items))
