use Rattle.std.proofs.Common.{◌≡◌, ◌∙◌, ◌+◌, ◌-◌, ◌%◌, ◌<◌, ◌≤◌, ℕ, suc, List, length, ap, sym, subst, arith, rules}
use Rattle.cf_row.specs.declared.row.Entry.{Entry}
use Rattle.cf_fold.specs.Quads.{quad_of}
use Rattle.cf_walk.specs.Walks.{leaf_of, amounts_below}
use Rattle.cf_table.proofs.Mays.{may_walk}
use Rattle.cf_table.proofs.Looks.{head_loads, cell_loads}
use Rattle.cf_walk.proofs.Keys.{some_levels}
use Rattle.cf_walk.proofs.Counted.{counting_begins, counting_new}
use Rattle.cf_walk.proofs.Walked.{IsWalking, HasBegun, HasWalkedOn, begun, stepped_from, may_step, did_then, measuring_then, walked_seen, above_long, picks_from}
use Rattle.cf_walk.proofs.Versions.{no_amounts, same_amounts, entry_of, quad_steps}
use Rattle.cf_walk.proofs.quads.chain_quad.Goals as goal
use Rattle.cf_law.proofs.Shapes.{some_cell}

pub begin-link-requires : goal.begin-link-requires
begin-link-requires g c κs within =
    let s = c.args.log.now.shape in
    let leaf = c.args.leaf in
    let above = c.requires.above in
    let some = some_levels s leaf.lane c.shape-lawful.ensures.lawful above.exists in (
      search rules,
      (
        search rules,
        (
          c.requires.measures.reads.of,
          (
            (above.within, c.requires.writer),
            may_walk s (g.P.Pass.held c.args.pass.now).view leaf.lane _ leaf.node (leaf.key % 16) c.args.writer above.knows
                (above_long s leaf.lane leaf.key (omega (arith, some.0))) (omega arith) c.requires.writer,
          ),
        ),
      ),
    )

pub loop-link-init : goal.loop-link-init
loop-link-init g c =
    let s = c.args.log.now.shape in
    let leaf = c.args.leaf in
    let above = c.requires.above in
    let m = g.P.Pass.held c.args.pass.now in
    let n = g.P.Pass.held c.begin-link.new.pass in
    let v = c.begin-link.result in
    let some = some_levels s leaf.lane c.shape-lawful.ensures.lawful above.exists in
    let b : HasBegun s m n c.args.writer (leaf_of s leaf.lane leaf.key) v =
    begun s m n leaf.lane leaf.key leaf.node c.args.writer v (omega (arith, some.0)) c.requires.writer above c.begin-link.ensures.made in
    let count = c.begin-link.ensures.steps in
    record {
      walked = record { only = b.walked; loads = head_loads s m n _ _ _ _ v _ _ c.begin-link.ensures.made count };
      walking = b.walking;
      same = b.all;
      count = counting_begins s c.args.writer m n v 0 (c.args.steps.now + 1) _ b.met (omega (arith, count));
    }

pub load_cell-first-requires-clause-lawful : goal.load_cell-first-requires-clause-lawful
load_cell-first-requires-clause-lawful g c =
    let s = c.args.log.now.shape in
    let leaf = c.args.leaf in
    let o = c.loop-link.link - 1 in
    let p = (g.P.Pass.held c.loop-link.pass).view in
    let seen = ((g.P.Pass.held c.args.pass.now).view).seen in
    let some = c.loop-link-test.true in
    let next : c.loop-link.link ≡ suc o = omega (arith, some) in
    may_step s p seen c.args.writer o (leaf_of s leaf.lane leaf.key) c.shape-lawful.ensures.lawful c.requires.above.exists (some_cell s leaf.lane)
    (subst (λ (k : ℕ). IsWalking s seen c.args.writer (leaf_of s leaf.lane leaf.key) k p) next c.loop-link.invariant.walking)

pub loop-link-smaller : goal.loop-link-smaller
loop-link-smaller g c =
    let s = c.args.log.now.shape in
    let leaf = c.args.leaf in
    let v = c.loop-link.invariant in
    let f = g.P.Pass.held c.args.pass.now in
    let m = g.P.Pass.held c.loop-link.pass in
    let n = g.P.Pass.held c.load_cell-first.new.pass in
    let test = c.loop-link-test.true in
    let some : 0 < c.loop-link.link = omega (arith, test) in
    let st = stepped_from s m n c.args.writer (leaf_of s leaf.lane leaf.key)
    (f.view).seen c.loop-link.link c.load_cell-first.result some c.shape-lawful.ensures.lawful c.requires.above.exists (some_cell s leaf.lane)
    (walked_seen f m v.walked.only) v.walking c.load_cell-first.ensures.made in
    let falls = st.falls in
    let next = c.link_in-link.ensures in
    omega (arith, some, falls, next)

pub loop-link-preserved : goal.loop-link-preserved
loop-link-preserved g c =
    let s = c.args.log.now.shape in
    let leaf = c.args.leaf in
    let spot = leaf_of s leaf.lane leaf.key in
    let w = c.args.writer in
    let v = c.loop-link.invariant in
    let f = g.P.Pass.held c.args.pass.now in
    let m = g.P.Pass.held c.loop-link.pass in
    let n = g.P.Pass.held c.load_cell-first.new.pass in
    let seen = (f.view).seen in
    let link = c.loop-link.link in
    let next = c.link_in-link.result in
    let test = c.loop-link-test.true in
    let covered = c.covered.ensures in
    let wide = c.from-covered.ensures in
    let some : 0 < link = omega (arith, test) in
    let past : length seen ≤ link - 1 = omega (arith, test, covered, wide) in
    let st : HasWalkedOn s m n w spot seen (link - 1) next = subst (λ (k : ℕ). HasWalkedOn s m n w spot seen (link - 1) k) (sym c.link_in-link.ensures)
    (stepped_from s m n w spot seen link c.load_cell-first.result some c.shape-lawful.ensures.lawful c.requires.above.exists (some_cell s leaf.lane)
    (walked_seen f m v.walked.only) v.walking c.load_cell-first.ensures.made) in
    let more = c.load_cell-first.ensures.steps in
    record {
      walked = did_then v.walked (record { only = st.walked; loads = cell_loads s m n _ _ _ c.load_cell-first.result _ _ c.load_cell-first.ensures.made more });
      walking = st.walking;
      same = sym (st.skips past) ∙ (sym (picks_from s w spot seen link some) ∙ v.same);
      count = counting_new s w f m n link next 0 0 (c.args.steps.now + 1) c.loop-link.steps _ v.count st.met st.apart some past v.walking.low st.falls
          (omega arith) more;
    }

pub returns-then-link-eq0-clause-quad : goal.returns-then-link-eq0-clause-quad
returns-then-link-eq0-clause-quad g c =
    no_amounts c.args.log.now.shape c.args.leaf.lane c.args.leaf.key c.args.writer c.loop-link.link
    ((g.P.Pass.held c.args.pass.now).view).seen c.if-link-eq0.true c.loop-link.invariant.same

pub returns-then-link-eq0-clause-steps : goal.returns-then-link-eq0-clause-steps
returns-then-link-eq0-clause-steps g c =
    let m = g.P.Pass.held c.loop-link.pass in
    quad_steps c.args.log.now.shape c.args.writer
    (g.P.Pass.held c.args.pass.now) m m c.loop-link.link c.args.steps.now c.loop-link.steps c.loop-link.steps 3 c.loop-link.invariant.count (λ k v x. x)
    (omega arith)

pub read_quad-requires-clause-entry : goal.read_quad-requires-clause-entry
read_quad-requires-clause-entry g c =
    let s = c.args.log.now.shape in
    let v = c.loop-link.invariant in
    let f = g.P.Pass.held c.args.pass.now in
    let m = g.P.Pass.held c.loop-link.pass in
    let past = c.loop-link-test.false in
    let some = c.if-link-eq0.false in
    let covered = c.covered.ensures in
    let wide = c.from-covered.ensures in
    entry_of s c.args.leaf.lane c.args.leaf.key c.args.writer c.loop-link.link (f.view).seen (m.view).seen m.view (walked_seen f m v.walked.only)
    (omega (arith, some)) (omega (arith, past, covered, wide)) v.walking

pub read_quad-requires-clause-measures : goal.read_quad-requires-clause-measures
read_quad-requires-clause-measures g c = measuring_then c.loop-link.invariant.walked.only c.requires.measures

pub returns-clause-quad : goal.returns-clause-quad
returns-clause-quad g c =
    let s = c.args.log.now.shape in
    let v = c.loop-link.invariant in
    let f = g.P.Pass.held c.args.pass.now in
    let m = g.P.Pass.held c.loop-link.pass in
    let leaf = c.args.leaf in
    let some = c.if-link-eq0.false in
    c.read_quad.ensures.quad
    ∙ (ap (λ (es : List Entry). quad_of (amounts_below s leaf.lane leaf.key es c.args.writer (c.loop-link.link - 1 + 1))) (walked_seen f m v.walked.only)
    ∙ same_amounts s leaf.lane leaf.key c.args.writer c.loop-link.link (f.view).seen (omega (arith, some)) v.same)

pub returns-clause-walked : goal.returns-clause-walked
returns-clause-walked g c =
    did_then c.loop-link.invariant.walked c.read_quad.ensures.walked

pub returns-clause-steps : goal.returns-clause-steps
returns-clause-steps g c =
    let more = c.read_quad.ensures.steps in
    quad_steps c.args.log.now.shape c.args.writer (g.P.Pass.held c.args.pass.now) (g.P.Pass.held c.loop-link.pass)
    (g.P.Pass.held c.read_quad.new.pass) c.loop-link.link c.args.steps.now c.loop-link.steps _ 3 c.loop-link.invariant.count c.read_quad.ensures.met
    (omega (arith, more))
