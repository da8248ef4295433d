use Rattle.std.proofs.Common.{◌≡◌, ◌∙◌, ◌+◌, ◌<◌, ◌≤◌, ◌++◌, List, All, ap, append_assoc, arith, drop, length, subst, sym, take}
use Rattle.std.proofs.lemmas.List.{take_all}
use Rattle.std.proofs.lemmas.List.Elements.{All-drop, All-same, All-take}
use Rattle.cf_row.specs.Row.{Fits, RowValue}
use Rattle.cf_shape.specs.Lanes.{ShapeValue}
use Rattle.cf_fill.specs.Filling.{Fills, IsFilled}
use Rattle.cf_long.proofs.SpelledRows.{batch_more, batch_some, batch_within}
use Rattle.cf_long.proofs.growing.load_kept.Goals as goal

pub overflow_add-at : goal.overflow_add-at
overflow_add-at g c =
    let rows = c.args.kept.now.rows in
    let at = c.loop-at.at in
    let low : at < length rows = omega (arith, c.loop-at-test.true, c.count.ensures) in
    let moved : c.len-at.result ≡ length (take 4096 (drop at rows)) =
    c.len-at.ensures ∙ (c.in_ok-rows.rows.ok.0 ∙ ap (λ (rs : List RowValue). length rs) c.in_ok-rows.ensures) in
    omega (arith, batch_within at 4096 rows low, moved, c.count.ensures, c.count.type_inv)

pub take_rows-requires-clause-fit : goal.take_rows-requires-clause-fit
take_rows-requires-clause-fit g c κs within =
    let rows = c.args.kept.now.rows in
    let at = c.loop-at.at in
    let P : RowValue → Type 0 = Fits c.args.log.now.segments.shape.schema in
    subst (λ (h : ShapeValue). All (Fits h.schema) c.in_ok-rows.rows.items) (sym c.loop-at.invariant.keeps.shape)
    (All-same P c.in_ok-rows.rows.items (take 4096 (drop at rows)) c.in_ok-rows.ensures
    (All-take P 4096 (drop at rows) (All-drop P at rows c.requires.fit)))

pub loop-at-smaller : goal.loop-at-smaller
loop-at-smaller g c =
    let rows = c.args.kept.now.rows in
    let at = c.loop-at.at in
    let low : at < length rows = omega (arith, c.loop-at-test.true, c.count.ensures) in
    let moved : c.len-at.result ≡ length (take 4096 (drop at rows)) =
    c.len-at.ensures ∙ (c.in_ok-rows.rows.ok.0 ∙ ap (λ (rs : List RowValue). length rs) c.in_ok-rows.ensures) in
    let some = batch_some at 4096 rows low (omega arith) in
    omega (arith, low, moved, some)

pub loop-at-preserved : goal.loop-at-preserved
loop-at-preserved g c =
    let rows = c.args.kept.now.rows in
    let at = c.loop-at.at in
    let v = c.loop-at.invariant in
    let then = c.take_rows.new.self in
    let batch = c.in_ok-rows.rows.items in
    let is : batch ≡ take 4096 (drop at rows) = c.in_ok-rows.ensures in
    let keeps = c.take_rows.ensures.keeps in
    let fills : Fills c.loop-at.log then batch = c.in_ok-take_rows.ensures.filled in
    let moved : c.len-at.result ≡ length (take 4096 (drop at rows)) =
    c.len-at.ensures ∙ (c.in_ok-rows.rows.ok.0 ∙ ap (λ (rs : List RowValue). length rs) is) in
    let split : take (at + c.len-at.result) rows ≡ take at rows ++ batch =
    ap (λ n. take (at + n) rows) moved ∙ (batch_more at 4096 rows ∙ ap (λ (rs : List RowValue). take at rows ++ rs) (sym is)) in
    record {
      keeps = record { shape = keeps.shape ∙ v.keeps.shape; most = keeps.most ∙ v.keeps.most; plan = keeps.plan ∙ v.keeps.plan };
      some = (v.some.0 ++ batch, fills v.some.0 v.some.1);
      fills = λ before old. subst (λ (rs : List RowValue). IsFilled then (before ++ rs)) (sym split)
          (subst (λ (rs : List RowValue). IsFilled then rs) (append_assoc before (take at rows) batch)
          (fills (before ++ take at rows) (v.fills before old)));
    }

pub returns-clause-filled : goal.returns-clause-filled
returns-clause-filled g c = λ before old.
    let rows = c.args.kept.now.rows in
    let at = c.loop-at.at in
    let all : length rows ≤ at = omega (arith, c.loop-at-test.false, c.count.ensures) in
    subst (λ (rs : List RowValue). IsFilled c.loop-at.log (before ++ rs)) (take_all at rows all) (c.loop-at.invariant.fills before old)
