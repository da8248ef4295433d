use Rattle.std.proofs.Common.{◌≡◌, ◌∙◌, ◌+◌, ◌-◌, ◌≤◌, ℕ, List, length, ap, subst, arith}
use Rattle.cf_row.specs.declared.row.Entry.{Entry}
use Rattle.cf_shape.specs.Lanes.{ShapeValue}
use Rattle.cf_walk.specs.Walks.{leaf_places}
use Rattle.cf_walk.proofs.Counted.{all_begins, all_more, all_ends}
use Rattle.cf_walk.proofs.Walked.{did_nothing, did_then, walked_seen, above_then, of_walked, leaf_more, leaf_none, leaf_long}
use Rattle.cf_walk.proofs.chain.collect_leaf.Goals as goal

pub loop-writer-init : goal.loop-writer-init
loop-writer-init g c =
    record {
      walked = did_nothing (g.P.Pass.held c.args.pass.now) _;
      count = all_begins c.args.log.now.shape (g.P.Pass.held c.args.pass.now) _ _ _;
      found =
          leaf_none c.args.log.now.shape c.args.leaf.lane c.args.leaf.key ((g.P.Pass.held c.args.pass.now).view).seen c.args.found.now.items;
    }

pub collect_chain-requires-clause-of : goal.collect_chain-requires-clause-of
collect_chain-requires-clause-of g c =
    of_walked c.args.log.now (g.P.Pass.held c.args.pass.now) (g.P.Pass.held c.loop-writer.pass) c.loop-writer.invariant.walked.only c.requires.of

pub collect_chain-requires-clause-above : goal.collect_chain-requires-clause-above
collect_chain-requires-clause-above g c =
    above_then c.args.log.now.shape c.args.leaf.lane c.args.leaf.key c.args.leaf.node (g.P.Pass.held c.args.pass.now)
    (g.P.Pass.held c.loop-writer.pass) c.loop-writer.invariant.walked.only c.requires.above

pub loop-writer-preserved : goal.loop-writer-preserved
loop-writer-preserved g c =
    let s = c.args.log.now.shape in
    let leaf = c.args.leaf in
    let v = c.loop-writer.invariant in
    let f = g.P.Pass.held c.args.pass.now in
    let m = g.P.Pass.held c.loop-writer.pass in
    let n = g.P.Pass.held c.collect_chain.new.pass in
    record {
      walked = did_then v.walked c.collect_chain.ensures.walked;
      count = all_more s m n (length (f.view).seen) c.loop-writer.writer (c.loop-writer.writer + 1) _ _ _ _ _ _
          (ap (λ (es : List Entry). length es) (walked_seen f m v.walked.only)) (omega arith)
          (leaf_long s leaf.lane leaf.key c.loop-writer.writer (c.loop-writer.writer + 1) (f.view).seen (m.view).seen (omega arith)
          (walked_seen f m v.walked.only)) v.count c.in_ok-collect_chain.ensures.steps;
      found = leaf_more s leaf.lane leaf.key c.loop-writer.writer (c.loop-writer.writer + 1) (f.view).seen (m.view).seen (c.loop-writer.found).items
          (c.collect_chain.new.found).items c.args.found.now.items (omega arith) (walked_seen f m v.walked.only) c.in_ok-collect_chain.ensures.found v.found;
    }

pub returns-clause-steps : goal.returns-clause-steps
returns-clause-steps g c =
    let s = c.args.log.now.shape in
    let leaf = c.args.leaf in
    let seen = ((g.P.Pass.held c.args.pass.now).view).seen in
    let past = c.loop-writer-test.false in
    let upto = c.loop-writer.auto.writer-end in
    let all : c.writers-writer-end.result ≡ s.writers = c.writers-writer-end.ensures.writers ∙ ap (λ (x : ShapeValue). x.writers) c.shape.ensures.shape in
    let last : c.loop-writer.writer ≡ s.writers = omega (arith, past, upto, all) in
    subst (λ (w : ℕ). c.loop-writer.steps ≤ c.args.steps.now + w + length (leaf_places s leaf.lane leaf.key seen w) + (s.capacity - length seen)) last
    (all_ends s (g.P.Pass.held c.loop-writer.pass) (length seen) c.loop-writer.writer c.args.steps.now _ c.loop-writer.steps c.loop-writer.invariant.count)
