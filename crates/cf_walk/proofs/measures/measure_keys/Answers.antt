use Rattle.std.proofs.Common.{◌+◌, List, subst, arith}
use Rattle.cf_row.specs.declared.row.Entry.{Entry}
use Rattle.cf_walk.specs.Measures.{HasMeasured}
use Rattle.cf_walk.proofs.Walked.{did_then, measuring_then, walked_seen}
use Rattle.cf_walk.proofs.Measured.{measured_then, measured_few}
use Rattle.cf_walk.proofs.measures.measure_keys.Goals as goal

pub measure_key-next-requires-clause-measures : goal.measure_key-next-requires-clause-measures
measure_key-next-requires-clause-measures g c = measuring_then c.loop-last.invariant.walked.only c.requires.measures

pub merge-total-requires : goal.merge-total-requires
merge-total-requires g c =
    let s = c.args.log.now.shape in
    let l = c.args.lane in
    let v = c.loop-last.invariant in
    let f = g.P.Pass.held c.args.pass.now in
    let m = g.P.Pass.held c.loop-last.pass in
    let lawful = c.shape-lawful.ensures.lawful in
    let room = lawful.capacity in
    let few = c.requires.measures.reads.few in
    let same = walked_seen f m v.walked.only in
    let total = measured_few s l c.args.range.0 c.args.range.1 c.loop-last.last
    (f.view).seen c.loop-last.total lawful c.requires.measures.exists c.requires.measures.reads.fit c.requires.top v.quad in
    let more = measured_few s l (c.loop-last.last + 1) c.args.range.1 c.measure_key-next.result.0
    (f.view).seen c.measure_key-next.result.1 lawful c.requires.measures.exists c.requires.measures.reads.fit c.requires.top
    (subst (λ (es : List Entry). HasMeasured s l
    (c.loop-last.last + 1) c.args.range.1 es c.measure_key-next.result.1 c.measure_key-next.result.0) same c.measure_key-next.ensures.quad) in
    record { few = omega (arith, total, more, few, room) }

pub loop-last-preserved : goal.loop-last-preserved
loop-last-preserved g c =
    let s = c.args.log.now.shape in
    let v = c.loop-last.invariant in
    let f = g.P.Pass.held c.args.pass.now in
    let m = g.P.Pass.held c.loop-last.pass in
    let n = g.P.Pass.held c.measure_key-next.new.pass in
    record {
      path = c.measure_key-next.ensures.path;
      walked = did_then v.walked c.measure_key-next.ensures.walked;
      quad = measured_then s c.args.lane c.args.range.0 c.args.range.1 c.loop-last.last c.measure_key-next.result.0 (f.view).seen
          (m.view).seen c.loop-last.total c.measure_key-next.result.1 c.merge-total.result
          (walked_seen f m v.walked.only) v.quad c.measure_key-next.ensures.quad c.merge-total.ensures.merged;
      steps = λ one. absurd (let a = v.quad.from in let b = v.quad.upto in let test = c.loop-last-test.true in omega (arith, one, a, b, test));
    }
