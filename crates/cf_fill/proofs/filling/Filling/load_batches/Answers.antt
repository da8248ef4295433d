use Rattle.std.proofs.Common.{rules, ◌≡◌, ◌<◌, ◌∙◌, ◌++◌, true, false, List, sym, ap, subst}
use Rattle.std.proofs.lemmas.Bool.{both_ways}
use Rattle.std.proofs.lemmas.Result.{IfOk-weaker}
use Rattle.cf_row.specs.Row.{RowValue}
use Rattle.cf_fill.specs.Filling.{FillingValue, HasRows, IsWaiting, LoadsWhole}
use Rattle.cf_fill.proofs.Taken.{appended, batches_done, waiting_rows}
use Rattle.cf_fill.proofs.filling.Filling.load_batches.Goals as goal

pub load_whole-requires-clause-rows : goal.load_whole-requires-clause-rows
load_whole-requires-clause-rows g c κs within =
    let i = c.self.inside in
    let f : FillingValue = record { segments = i.segments; loader = i.loader; waiting = i.waiting.items; count = i.count } in
    let rows = c.requires.waiting.0 in
    let here : IsWaiting f rows = subst (λ (v : FillingValue). IsWaiting v rows) (sym c.self.view_is) c.requires.waiting.1 in
    subst (λ (rs : List RowValue). HasRows f.segments rs f.loader) (sym c.deref.ensures.value) (waiting_rows f rows here)

pub load_whole-requires-clause-due : goal.load_whole-requires-clause-due
load_whole-requires-clause-due g c κs within =
    subst (λ (v : FillingValue). 0 < v.loader.plan.rounds) (sym c.self.view_is) c.requires.waiting.1.due

pub returns-then-stopped-clause-filled : goal.returns-then-stopped-clause-filled
returns-then-stopped-clause-filled g c = λ rows is.
    let i = c.self.inside in
    let f : FillingValue = record { segments = i.segments; loader = i.loader; waiting = i.waiting.items; count = i.count } in
    let here : IsWaiting f rows = subst (λ (v : FillingValue). IsWaiting v rows) (sym c.self.view_is) is in
    let count = c.in_ok-count.count in
    let t = c.load_whole.new.segments in
    let new = c.load_whole.new.loader in
    let done : LoadsWhole count f.waiting f.segments t f.loader new =
    subst (λ (rs : List RowValue). LoadsWhole count rs f.segments t f.loader new) c.deref.ensures.value c.in_ok-count.ensures.whole in
    let stopped : new.stopped ≡ true = search rules in
    batches_done f rows here count t new c.load_whole.ensures.shape c.load_whole.ensures.most c.load_whole.ensures.plan done c.clear.new.self.items (λ _. c.clear.ensures.items)
    (λ going. absurd (both_ways new.stopped going stopped))

pub returns-clause-filled : goal.returns-clause-filled
returns-clause-filled g c =
    let i = c.self.inside in
    let f : FillingValue = record { segments = i.segments; loader = i.loader; waiting = i.waiting.items; count = i.count } in
    let count = c.in_ok-count.count in
    let t = c.load_whole.new.segments in
    let new = c.load_whole.new.loader in
    let done : LoadsWhole count f.waiting f.segments t f.loader new =
    subst (λ (rs : List RowValue). LoadsWhole count rs f.segments t f.loader new) c.deref.ensures.value c.in_ok-count.ensures.whole in
    let going : new.stopped ≡ false = search rules in
    let kept = ap (λ (rs : List RowValue). rs ++ c.in_ok-rest.rest.items) c.clear-2.ensures.items ∙ c.in_ok-rest.ensures.tail in
    IfOk-weaker c.append.result _ _ (λ _ left rows is.
    batches_done f rows (subst (λ (v : FillingValue). IsWaiting v rows) (sym c.self.view_is) is) count t new c.load_whole.ensures.shape
    c.load_whole.ensures.most c.load_whole.ensures.plan done c.append.new.self.items (λ stopped. absurd (both_ways new.stopped going stopped)) (λ _. left ∙ kept))
    (appended c.append.result c.append.new.self.items (c.clear-2.new.self.items ++ c.in_ok-rest.rest.items) c.clear-2.new.self.items c.append.ensures.items)
