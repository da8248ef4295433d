use Rattle.std.proofs.Common.{◌∙◌, ◌≤◌, ◌++◌, ◌∷◌, [], List, false, length, sym, ap, subst, arith, rules}
use Rattle.std.proofs.lemmas.List.{length-map, map-append}
use Rattle.cf_row.specs.Row.{RowValue}
use Rattle.cf_shape.specs.Lanes.{ShapeValue}
use Rattle.cf_shape.specs.Nodes.{nodes_for}
use Rattle.cf_window.specs.Segments.{WindowSegmentValue}
use Rattle.cf_window.specs.Held.{WindowValue, rows_each}
use Rattle.cf_window.proofs.Rows.{count_one}
use Rattle.cf_window.proofs.Holding.{opened_window, new_takes}
use Rattle.cf_window.proofs.window.Window.open_for.Goals as goal

pub invariant_of-self-2 : goal.invariant_of-self-2
invariant_of-self-2 g c =
    let inside = c.self.inside in
    let v = c.self.invariant in
    let xs : List WindowSegmentValue = inside.segments.items in
    let e = c.push_reserved.ensures in
    let x = c.take.new.self in
    let shape_is = ap (λ (w : WindowValue). w.shape) c.self.view_is in
    let low = subst (λ (s : ShapeValue). length (nodes_for s c.args.row.now) ≤ s.nodes) (sym shape_is) c.requires.small in
    let is = new_takes inside.shape c.args.row.now c.in_ok-segment.segment x c.take.result c.lanes-lawful.ensures.lawful low
    c.in_ok-segment.ensures c.take.ensures.taken c.take.ensures.segment in
    let long = length-map xs (λ (s : WindowSegmentValue). s.rows) in
    let same = ap (λ (w : WindowValue). length w.segments) c.self.view_is in
    let most = ap (λ (w : WindowValue). w.most) c.self.view_is in
    let room = c.requires.room in
    let r = opened_window inside.shape inside.most xs c.push_reserved.new.self.items x v.0 e.items (ap (λ (s : WindowSegmentValue). s.shape) is)
    (ap (λ (s : WindowSegmentValue). s.is_spent) is) (omega (arith, long, same, most, room)) in
    let held = v.1 in
    let cap = e.capacity in
    let rows = ap (λ (ys : List WindowSegmentValue). rows_each ys) e.items
    ∙ (map-append (λ (s : WindowSegmentValue). s.rows) xs (x ∷ [])
    ∙ ap (λ (b : List RowValue). rows_each xs ++ b ∷ []) (ap (λ (s : WindowSegmentValue). s.rows) is)) in
    let more = count_one (rows_each xs) (rows_each c.push_reserved.new.self.items) c.args.row.now rows in
    let count = v.3 in
    (r.0, omega (arith, held, cap), λ _. r.1, omega (arith, more, count), search rules)

pub returns-clause-opened : goal.returns-clause-opened
returns-clause-opened g c =
    let inside = c.self.inside in
    let v = c.self.invariant in
    let xs : List WindowSegmentValue = inside.segments.items in
    let e = c.push_reserved.ensures in
    let x = c.take.new.self in
    let shape_is = ap (λ (w : WindowValue). w.shape) c.self.view_is in
    let low = subst (λ (s : ShapeValue). length (nodes_for s c.args.row.now) ≤ s.nodes) (sym shape_is) c.requires.small in
    let is = new_takes inside.shape c.args.row.now c.in_ok-segment.segment x c.take.result c.lanes-lawful.ensures.lawful low
    c.in_ok-segment.ensures c.take.ensures.taken c.take.ensures.segment in
    let rows = ap (λ (ys : List WindowSegmentValue). rows_each ys) e.items
    ∙ (map-append (λ (s : WindowSegmentValue). s.rows) xs (x ∷ [])
    ∙ ap (λ (b : List RowValue). rows_each xs ++ b ∷ []) (ap (λ (s : WindowSegmentValue). s.rows) is)) in
    ap (λ (ys : List (List RowValue)). record { shape = inside.shape; most = inside.most; from = inside.from; segments = ys; is_spent = false }) rows
    ∙ ap (λ (w : WindowValue). record w { segments = w.segments ++ (c.args.row.now ∷ []) ∷ []; is_spent = false }) c.self.view_is
