use Rattle.std.proofs.Common.{◌≡◌, ◌∙◌, ◌+◌, ◌*◌, ℕ, List, length, ap, arith}
use Rattle.cf_row.specs.declared.row.Entry.{Entry}
use Rattle.cf_fold.specs.Quads.{QuadValue, quad_of}
use Rattle.cf_shape.specs.Lanes.{ShapeValue}
use Rattle.cf_walk.specs.Walks.{leaf_amounts}
use Rattle.cf_walk.proofs.Counted.{all_begins, all_more, all_ends}
use Rattle.cf_walk.proofs.Walked.{did_nothing, did_then, measuring_then, walked_seen, above_then}
use Rattle.cf_walk.proofs.Versions.{amounts_start, amounts_next, amounts_few}
use Rattle.cf_walk.proofs.quads.leaf_quad.Goals as goal

pub loop-writer-init : goal.loop-writer-init
loop-writer-init g c = record {
  walked = did_nothing (g.P.Pass.held c.args.pass.now) _;
  quad = amounts_start c.args.log.now.shape c.args.leaf.lane c.args.leaf.key ((g.P.Pass.held c.args.pass.now).view).seen;
  few = omega arith;
  count = all_begins c.args.log.now.shape (g.P.Pass.held c.args.pass.now) (length ((g.P.Pass.held c.args.pass.now).view).seen) c.args.steps.now 0;
}

pub chain_quad-quad-requires-clause-measures : goal.chain_quad-quad-requires-clause-measures
chain_quad-quad-requires-clause-measures g c = measuring_then c.loop-writer.invariant.walked.only c.requires.measures

pub chain_quad-quad-requires-clause-above : goal.chain_quad-quad-requires-clause-above
chain_quad-quad-requires-clause-above g c =
    above_then c.args.log.now.shape c.args.leaf.lane c.args.leaf.key c.args.leaf.node (g.P.Pass.held c.args.pass.now)
    (g.P.Pass.held c.loop-writer.pass) c.loop-writer.invariant.walked.only c.requires.above

pub merge-total-requires : goal.merge-total-requires
merge-total-requires g c =
    let s = c.args.log.now.shape in
    let v = c.loop-writer.invariant in
    let f = g.P.Pass.held c.args.pass.now in
    let m = g.P.Pass.held c.loop-writer.pass in
    let lawful = c.shape.ensures.lawful in
    let room = lawful.capacity in
    let hands = lawful.writers in
    let all : c.writers-writer-end.result ≡ s.writers = c.writers-writer-end.ensures.writers ∙ ap (λ (x : ShapeValue). x.writers) c.shape.ensures.shape in
    let test = c.loop-writer-test.true in
    let far = ap (λ (es : List Entry). length es) (walked_seen f m v.walked.only) in
    let mine = ap (λ (q : QuadValue). q.count) c.chain_quad-quad.ensures.quad in
    let most = amounts_few s c.args.leaf.lane c.args.leaf.key c.loop-writer.writer (length (m.view).seen) (m.view).seen in
    let few = c.requires.measures.reads.few in
    let before = v.few in
    record { few = omega (arith, mine, most, far, few, room, hands, all, test, before) }

pub loop-writer-preserved : goal.loop-writer-preserved
loop-writer-preserved g c =
    let s = c.args.log.now.shape in
    let leaf = c.args.leaf in
    let w = c.loop-writer.writer in
    let v = c.loop-writer.invariant in
    let f = g.P.Pass.held c.args.pass.now in
    let m = g.P.Pass.held c.loop-writer.pass in
    let n = g.P.Pass.held c.chain_quad-quad.new.pass in
    let same = walked_seen f m v.walked.only in
    let room = c.shape.ensures.lawful.capacity in
    let far = ap (λ (es : List Entry). length es) same in
    let mine = ap (λ (q : QuadValue). q.count) c.chain_quad-quad.ensures.quad in
    let most = amounts_few s leaf.lane leaf.key w (length (m.view).seen) (m.view).seen in
    let few = c.requires.measures.reads.few in
    let before = v.few in
    let sum = c.merge-total.ensures.count in
    record {
      walked = did_then v.walked c.chain_quad-quad.ensures.walked;
      quad = amounts_next s leaf.lane leaf.key w (w + 1) (f.view).seen (m.view).seen c.loop-writer.total c.chain_quad-quad.result c.merge-total.result
          (omega arith) same v.quad c.chain_quad-quad.ensures.quad c.merge-total.ensures.merged;
      few = omega (arith, mine, most, far, few, room, before, sum);
      count = all_more s m n (length (f.view).seen) w (w + 1) c.args.steps.now (3 * w) 3 (3 * (w + 1)) c.loop-writer.steps _ far (omega arith)
          (omega arith) v.count c.chain_quad-quad.ensures.steps;
    }

pub returns-clause-quad : goal.returns-clause-quad
returns-clause-quad g c =
    let s = c.args.log.now.shape in
    let seen = ((g.P.Pass.held c.args.pass.now).view).seen in
    let past = c.loop-writer-test.false in
    let upto = c.loop-writer.auto.writer-end in
    let all : c.writers-writer-end.result ≡ s.writers = c.writers-writer-end.ensures.writers ∙ ap (λ (x : ShapeValue). x.writers) c.shape.ensures.shape in
    let last : c.loop-writer.writer ≡ s.writers = omega (arith, past, upto, all) in
    c.loop-writer.invariant.quad ∙ ap (λ (w : ℕ). quad_of (leaf_amounts s c.args.leaf.lane c.args.leaf.key seen w)) last

pub returns-clause-steps : goal.returns-clause-steps
returns-clause-steps g c =
    let s = c.args.log.now.shape in
    let seen = ((g.P.Pass.held c.args.pass.now).view).seen in
    let past = c.loop-writer-test.false in
    let upto = c.loop-writer.auto.writer-end in
    let all : c.writers-writer-end.result ≡ s.writers = c.writers-writer-end.ensures.writers ∙ ap (λ (x : ShapeValue). x.writers) c.shape.ensures.shape in
    let ends = all_ends s (g.P.Pass.held c.loop-writer.pass) (length seen) c.loop-writer.writer c.args.steps.now
    (3 * c.loop-writer.writer) c.loop-writer.steps c.loop-writer.invariant.count in
    omega (arith, past, upto, all, ends)
