use Rattle.std.proofs.Common.{List, sym, subst}
use Rattle.std.proofs.lemmas.Result.{IfOk-weaker}
use Rattle.cf_row.specs.Row.{RowValue}
use Rattle.cf_fill.specs.Filling.{FillingValue, HasCome}
use Rattle.cf_fill.proofs.Taken.{come_done, come_rows}
use Rattle.cf_fill.proofs.filling.Filling.load_now.Goals as goal

pub load_parts-requires-clause-rows : goal.load_parts-requires-clause-rows
load_parts-requires-clause-rows g c κs within =
    let i = c.self.inside in
    let f : FillingValue = record { segments = i.segments; loader = i.loader; waiting = i.waiting.items; count = i.count } in
    let rows = c.args.rows.now in
    let before = c.requires.come.0 in
    come_rows f before rows (subst (λ (v : FillingValue). HasCome v before rows) (sym c.self.view_is) c.requires.come.1)

pub returns-clause-filled : goal.returns-clause-filled
returns-clause-filled g c =
    let i = c.self.inside in
    let f : FillingValue = record { segments = i.segments; loader = i.loader; waiting = i.waiting.items; count = i.count } in
    let rows = c.args.rows.now in
    IfOk-weaker c.load_parts.result _ _ (λ _ loads before come.
    come_done f before rows (subst (λ (v : FillingValue). HasCome v before rows) (sym c.self.view_is) come) c.load_parts.new.segments
    c.load_parts.new.loader c.load_parts.ensures.shape c.load_parts.ensures.most c.load_parts.ensures.plan loads)
    c.load_parts.ensures.loaded
