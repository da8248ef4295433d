use Rattle.std.proofs.Common.{◌≡◌, ◌%◌, ap, sym, ◌∙◌, Ok, Err, rules}
use Rattle.cf_shape.specs.Lanes.{ShapeValue}
use Rattle.cf_append.specs.declared.appends.AppendFault.TheVariants.{Full, NodesFull}
use Rattle.cf_load.proofs.Progress.{goes_first, goes_other, goes_answered, stops_full, stops_out}
use Rattle.cf_load.proofs.writers.write_rows.Goals as goal
use Rattle.cf_load.proofs.writers.write_rows.Goals.{then-number-writers+in-Ok, else-number-writers}

pub loop-row-init : goal.loop-row-init
loop-row-init g c =
    record {
      goes = goes_first c.args.log.now c.args.first c.args.batch.now c.args.pass.now c.requires.ready;
      near = c.new-leaves.ensures c.args.log.now.shape c.args.pass.now.view;
    }

pub returns-in-Err-Full-clause-wrote : goal.returns-in-Err-Full-clause-wrote
returns-in-Err-Full-clause-wrote g c =
    let made = c.append_near.ensures.appended in
    let err : c.append_near.result ≡ Err Full = search rules in
    stops_full c.args.log.now c.args.first c.args.batch.now c.args.pass.now c.loop-row.number c.loop-row.row-index c.loop-row.pass c.append_near.new.pass
    c.append_near.result c.row-item.result c.loop-row.invariant.goes c.loop-row-test.true (sym c.row-item.is) made.goes_on made.rest made.answer err

pub returns-in-Err-NodesFull-clause-wrote : goal.returns-in-Err-NodesFull-clause-wrote
returns-in-Err-NodesFull-clause-wrote g c =
    let made = c.append_near.ensures.appended in
    let err : c.append_near.result ≡ Err NodesFull = search rules in
    (stops_out c.args.log.now c.args.first c.args.batch.now c.args.pass.now c.loop-row.number c.loop-row.row-index c.loop-row.pass c.append_near.new.pass
    c.append_near.result c.row-item.result c.loop-row.invariant.goes c.loop-row-test.true (sym c.row-item.is) made.goes_on made.rest made.answer err).0

pub returns-in-Err-NodesFull-clause-out : goal.returns-in-Err-NodesFull-clause-out
returns-in-Err-NodesFull-clause-out g c =
    let made = c.append_near.ensures.appended in
    let err : c.append_near.result ≡ Err NodesFull = search rules in
    let writers = c.from-writers.ensures ∙ (c.writers.ensures.writers ∙ ap (λ (s : ShapeValue). s.writers) c.shape.ensures.shape) in
    let same = ap (λ n. c.loop-row.number % n) writers in
    let writer = c.from.ensures ∙ c.writer-writer.ensures.writer in
    (stops_out c.args.log.now c.args.first c.args.batch.now c.args.pass.now c.loop-row.number c.loop-row.row-index c.loop-row.pass c.append_near.new.pass
    c.append_near.result c.row-item.result c.loop-row.invariant.goes c.loop-row-test.true (sym c.row-item.is) made.goes_on made.rest made.answer err).1
    _ c.writer-writer.ensures.writer (sym same ∙ (c.if-number-writers.true ∙ writer))

pub loop-row-preserved : goal.loop-row-preserved
loop-row-preserved g c =
    let k = c.loop-row.number in
    let i = c.loop-row.row-index in
    let writers = c.from-writers.ensures ∙ (c.writers.ensures.writers ∙ ap (λ (s : ShapeValue). s.writers) c.shape.ensures.shape) in
    let same = ap (λ n. k % n) writers in
    let writer = c.from.ensures ∙ c.writer-writer.ensures.writer in
    elim c.if-number-writers.branch [
      | then-number-writers+in-Ok w ↦
          let made = w.append_near.ensures.appended in
          let ok : w.append_near.result ≡ Ok w.in-Ok.field-0 = search rules in
          rw (w.pass-is, w.leaves-is)
          (record {
            goes = goes_answered c.args.log.now c.args.first c.args.batch.now c.args.pass.now k i c.loop-row.pass w.append_near.new.pass
                w.append_near.result w.in-Ok.field-0 c.row-item.result c.loop-row.invariant.goes c.loop-row-test.true (sym c.row-item.is)
                (sym same ∙ (w.if-number-writers.true ∙ writer)) made.goes_on made.rest made.answer ok;
            near = w.append_near.ensures.near;
          })
      | else-number-writers w ↦ rw (w.pass-is, w.leaves-is)
          (record {
            goes = goes_other c.args.log.now c.args.first c.args.batch.now c.args.pass.now k i c.loop-row.pass c.row-item.result
                c.loop-row.invariant.goes c.loop-row-test.true (λ e. w.if-number-writers.false (same ∙ (e ∙ sym writer)));
            near = c.loop-row.invariant.near;
          })
    ]
