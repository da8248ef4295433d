use Rattle.std.proofs.Common.{◌≡◌, ◌<◌, ◌≤◌, false, List, length, sym, ap, subst, ◌∙◌}
use Rattle.std.proofs.lemmas.Result.{IfOk-weaker}
use Rattle.cf_segments.specs.Segments.{room_of}
use Rattle.cf_row.specs.Row.{RowValue}
use Rattle.cf_fill.specs.Filling.{FillingValue, HasBatch, IsFilled, LoadsWaiting}
use Rattle.cf_fill.proofs.Filled.{all_loaded, keeps_all, last_batch, last_loaded}
use Rattle.cf_fill.proofs.filling.Filling.load_last.Goals as goal

pub returns-then-is_done-clause-loaded : goal.returns-then-is_done-clause-loaded
returns-then-is_done-clause-loaded g c = λ rows is. last_loaded c.args.self.now rows is c.requires.few (c.is_done.ensures.done c.if-is_done.true)

pub returns-then-is_done-clause-keeps : goal.returns-then-is_done-clause-keeps
returns-then-is_done-clause-keeps g c = keeps_all c.args.self.now

pub load-requires-after_bounds : goal.load-requires-after_bounds
load-requires-after_bounds g c κs within =
    let i = c.self.inside in
    let f : FillingValue = record { segments = i.segments; loader = i.loader; waiting = i.waiting.items; count = i.count } in
    let waits = c.is_done.ensures.waits c.if-is_done.false in
    let here : IsFilled f c.requires.filled.0 = subst (λ (v : FillingValue). IsFilled v c.requires.filled.0) (sym c.self.view_is) c.requires.filled.1 in
    let few : f.count ≤ room_of f.segments = subst (λ (v : FillingValue). v.count ≤ room_of v.segments) (sym c.self.view_is) c.requires.few in
    let going : f.loader.stopped ≡ false = ap (λ (v : FillingValue). v.loader.stopped) c.self.view_is ∙ waits.0 in
    let some : 0 < length f.waiting = subst (λ (v : FillingValue). 0 < length v.waiting) (sym c.self.view_is) waits.1 in
    subst (λ (rs : List RowValue). HasBatch f.segments rs f.loader) (sym c.deref.ensures.value)
    (last_batch f c.requires.filled.0 here few going some)

pub returns-clause-loaded : goal.returns-clause-loaded
returns-clause-loaded g c =
    let i = c.self.inside in
    let f : FillingValue = record { segments = i.segments; loader = i.loader; waiting = i.waiting.items; count = i.count } in
    let waits = c.is_done.ensures.waits c.if-is_done.false in
    let few : f.count ≤ room_of f.segments = subst (λ (v : FillingValue). v.count ≤ room_of v.segments) (sym c.self.view_is) c.requires.few in
    let going : f.loader.stopped ≡ false = ap (λ (v : FillingValue). v.loader.stopped) c.self.view_is ∙ waits.0 in
    IfOk-weaker c.load.result _ _ (λ _ loaded rows is.
    all_loaded f rows (subst (λ (v : FillingValue). IsFilled v rows) (sym c.self.view_is) is) c.load.new.segments c.load.new.loader few going
    (subst (λ (rs : List RowValue). LoadsWaiting rs f.segments c.load.new.segments f.loader c.load.new.loader) c.deref.ensures.value loaded))
    c.load.ensures.loaded

pub returns-clause-keeps : goal.returns-clause-keeps
returns-clause-keeps g c =
    record {
      shape = c.load.ensures.shape ∙ ap (λ (v : FillingValue). v.segments.shape) c.self.view_is;
      most = c.load.ensures.most ∙ ap (λ (v : FillingValue). v.segments.most) c.self.view_is;
      plan = c.load.ensures.plan ∙ ap (λ (v : FillingValue). v.loader.plan) c.self.view_is;
    }
