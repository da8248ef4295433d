use Rattle.std.proofs.Common.{arith}
use Rattle.cf_walk.proofs.Walked.{did_then, walked_seen}
use Rattle.cf_walk.proofs.Ranges.{over_then}
use Rattle.cf_walk.proofs.range.collect_range.Goals as goal

pub loop-last-preserved : goal.loop-last-preserved
loop-last-preserved g c =
    let s = c.args.log.now.shape in
    let v = c.loop-last.invariant in
    let f = g.P.Pass.held c.args.pass.now in
    let m = g.P.Pass.held c.loop-last.pass in
    let n = g.P.Pass.held c.collect_key-in-loop-last.new.pass in
    record {
      path = c.in_ok-last-2.ensures.path;
      walked = did_then v.walked c.collect_key-in-loop-last.ensures.walked;
      steps = λ one. absurd (let a = v.over.from in let b = v.over.upto in let test = c.loop-last-test.true in omega (arith, one, a, b, test));
      over = over_then s c.args.lane c.args.range.0 c.args.range.1 c.loop-last.last c.in_ok-last-2.last (f.view).seen (m.view).seen c.args.found.now.items
          (c.loop-last.found).items (c.collect_key-in-loop-last.new.found).items (walked_seen f m v.walked.only) v.over c.in_ok-last-2.ensures.found;
    }
