use Rattle.std.proofs.Common.{◌∙◌, sym, arith}
use Rattle.cf_window.proofs.Holding.{counted_in, counted_out}
use Rattle.cf_window.proofs.needed.nodes_needed.Goals as goal
use Rattle.cf_window.proofs.needed.nodes_needed.Goals.{then-selects, else-selects}

pub loop-lane-preserved : goal.loop-lane-preserved
loop-lane-preserved c =
    let v = c.loop-lane.invariant in
    let shape = c.args.shape.now in
    let row = c.args.row.now in
    let lane = c.loop-lane.lane in
    elim c.if-selects.branch [
      | then-selects w ↦
          (let more = counted_in shape row lane (sym c.selects.ensures ∙ w.if-selects.true) in let is = w.count-is in let from = w.from-count.ensures in
          let cut = w.saturating_sub.ensures in let levels = w.levels.ensures in let small = w.levels.type_inv in let old = v.count in let few = v.few in
          record { count = omega (arith, more, is, from, cut, levels, old); few = omega (arith, is, from, cut, small, few) })
      | else-selects w ↦
          (let more = counted_out shape row lane (sym c.selects.ensures ∙ w.if-selects.false) in let is = w.count-is in let old = v.count in let few = v.few in
          record { count = omega (arith, more, is, old); few = omega (arith, is, few) })
    ]
