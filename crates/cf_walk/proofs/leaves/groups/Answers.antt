use Rattle.std.proofs.Common.{◌≡◌, ◌∙◌, ◌+◌, ◌^◌, [], ap, subst, arith, ℕ}
use Rattle.cf_shape.specs.Lanes.{ShapeValue}
use Rattle.cf_shape.specs.Nodes.{levels_of}
use Rattle.cf_plain.specs.Asks.{rows_in}
use Rattle.cf_walk.specs.Measures.{HasGrouped}
use Rattle.cf_walk.proofs.Walked.{did_then, measuring_then, walked_seen}
use Rattle.cf_walk.proofs.Grouping.{grouped_then, all_groups}
use Rattle.cf_walk.proofs.leaves.groups.Goals as goal

pub add_group-requires-in-loop-last-clause-measures : goal.add_group-requires-in-loop-last-clause-measures
add_group-requires-in-loop-last-clause-measures g c = measuring_then c.loop-last.invariant.walked.only c.requires.measures

pub loop-last-preserved : goal.loop-last-preserved
loop-last-preserved g c =
    let s = c.args.log.now.shape in
    let v = c.loop-last.invariant in
    let f = g.P.Pass.held c.args.pass.now in
    let m = g.P.Pass.held c.loop-last.pass in
    let n = g.P.Pass.held c.add_group-in-loop-last.new.pass in
    record {
      path = c.in_ok-last-2.ensures.path;
      walked = did_then v.walked c.add_group-in-loop-last.ensures.walked;
      grouped = grouped_then s c.args.lane 0 c.greatest_key-high.result c.loop-last.last c.in_ok-last-2.last (rows_in (f.view).seen) (rows_in (m.view).seen) []
          (c.loop-last.groups).items (c.add_group-in-loop-last.new.groups).items (ap rows_in (walked_seen f m v.walked.only)) v.grouped c.in_ok-last-2.ensures.found;
    }

pub returns-clause-found : goal.returns-clause-found
returns-clause-found g c =
    let s = c.args.log.now.shape in
    let l = c.args.lane in
    let v = c.loop-last.invariant in
    let high = c.greatest_key-high.result in
    let seen = ((g.P.Pass.held c.args.pass.now).view).seen in
    let most : high + 1 ≡ 16 ^ levels_of s l = c.greatest_key-high.ensures ∙ ap (λ (x : ShapeValue). 16 ^ levels_of x l) c.shape.ensures.shape in
    let test = c.loop-last-test.false in
    let upto = v.grouped.upto in
    let end' : c.loop-last.last ≡ high = omega (arith, test, upto) in
    all_groups s l high seen (c.loop-last.groups).items c.shape.ensures.lawful c.requires.alone c.requires.measures.exists c.requires.measures.reads.fit most
    (subst (λ (k : ℕ). HasGrouped s l 0 high (rows_in seen) [] (c.loop-last.groups).items k) end' v.grouped)
