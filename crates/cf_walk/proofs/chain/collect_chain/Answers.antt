use Rattle.std.proofs.Common.{◌≡◌, ◌∙◌, ◌-◌, ◌%◌, ◌++◌, ◌∷◌, ℕ, suc, List, Vec, Global, length, map, ap, sym, subst, arith, rules}
use Rattle.cf_row.specs.Row.{RowValue}
use Rattle.cf_table.proofs.Mays.{may_walk}
use Rattle.cf_table.proofs.Looks.{head_loads, cell_loads}
use Rattle.cf_walk.specs.Walks.{leaf_of}
use Rattle.cf_walk.proofs.Keys.{some_levels}
use Rattle.cf_walk.proofs.Counted.{counting_begins, counting_known, counting_new, counting_ends}
use Rattle.cf_walk.proofs.Walked.{IsWalking, HasBegun, HasWalkedOn, begun, may_step, did_then, walked_seen, below, kept_known, kept_new, kept_all, above_long, stepped_from, below_next}
use Rattle.cf_walk.proofs.chain.collect_chain.Goals as goal
use Rattle.cf_walk.proofs.chain.collect_chain.Goals.{then-place-covered+in_ok-push, else-place-covered}
use Rattle.cf_law.proofs.Shapes.{some_cell}

pub begin-link-requires : goal.begin-link-requires
begin-link-requires g c κs within =
    let s = c.args.log.now.shape in
    let leaf = c.args.leaf in
    let above = c.requires.above in
    let some = some_levels s leaf.lane c.shape-lawful.ensures.lawful above.exists in (
      search rules,
      (
        search rules,
        (
          c.requires.of,
          (
            (above.within, c.requires.writer),
            may_walk s (g.P.Pass.held c.args.pass.now).view leaf.lane _ leaf.node (leaf.key % 16) c.args.writer above.knows
                (above_long s leaf.lane leaf.key (omega (arith, some.0))) (omega arith) c.requires.writer,
          ),
        ),
      ),
    )

pub loop-link-init : goal.loop-link-init
loop-link-init g c =
    let s = c.args.log.now.shape in
    let leaf = c.args.leaf in
    let above = c.requires.above in
    let m = g.P.Pass.held c.args.pass.now in
    let n = g.P.Pass.held c.begin-link.new.pass in
    let v = c.begin-link.result in
    let some = some_levels s leaf.lane c.shape-lawful.ensures.lawful above.exists in
    let b : HasBegun s m n c.args.writer (leaf_of s leaf.lane leaf.key) v =
    begun s m n leaf.lane leaf.key leaf.node c.args.writer v (omega (arith, some.0)) c.requires.writer above c.begin-link.ensures.made in
    let same : below s c.args.writer (leaf_of s leaf.lane leaf.key) (m.view).seen v ≡ below s c.args.writer (leaf_of s leaf.lane leaf.key) (m.view).seen
    (length (m.view).seen) = ap (λ (xs : List (ℕ × RowValue)). map (λ x. x.0) xs) b.all in
    let long = ap (λ (xs : List ℕ). length xs) same in
    let count = c.begin-link.ensures.steps in
    record {
      walked = record { only = b.walked; loads = head_loads s m n _ _ _ _ v _ _ c.begin-link.ensures.made count };
      walking = b.walking;
      found = ap (λ (xs : List ℕ). c.args.found.now.items ++ xs) same;
      count = counting_begins s c.args.writer m n v (length (below s c.args.writer (leaf_of s leaf.lane leaf.key) (m.view).seen v)) _ _ b.met
          (omega (arith, long, count));
    }

pub load_cell-first-requires-clause-lawful : goal.load_cell-first-requires-clause-lawful
load_cell-first-requires-clause-lawful g c =
    let s = c.args.log.now.shape in
    let leaf = c.args.leaf in
    let o = c.loop-link.link - 1 in
    let p = (g.P.Pass.held c.loop-link.pass).view in
    let seen = ((g.P.Pass.held c.args.pass.now).view).seen in
    let some = c.loop-link-test.true in
    let next : c.loop-link.link ≡ suc o = omega (arith, some) in
    may_step s p seen c.args.writer o (leaf_of s leaf.lane leaf.key) c.shape-lawful.ensures.lawful c.requires.above.exists (some_cell s leaf.lane)
    (subst (λ (k : ℕ). IsWalking s seen c.args.writer (leaf_of s leaf.lane leaf.key) k p) next c.loop-link.invariant.walking)

pub loop-link-smaller : goal.loop-link-smaller
loop-link-smaller g c =
    let s = c.args.log.now.shape in
    let leaf = c.args.leaf in
    let v = c.loop-link.invariant in
    let f = g.P.Pass.held c.args.pass.now in
    let m = g.P.Pass.held c.loop-link.pass in
    let n = g.P.Pass.held c.load_cell-first.new.pass in
    let some = c.loop-link-test.true in
    let st = stepped_from s m n c.args.writer (leaf_of s leaf.lane leaf.key)
    (f.view).seen c.loop-link.link c.load_cell-first.result some c.shape-lawful.ensures.lawful c.requires.above.exists (some_cell s leaf.lane)
    (walked_seen f m v.walked.only) v.walking c.load_cell-first.ensures.made in
    let falls = st.falls in
    let next = c.link_in-link.ensures in
    omega (arith, some, falls, next)

pub loop-link-preserved : goal.loop-link-preserved
loop-link-preserved g c =
    let s = c.args.log.now.shape in
    let leaf = c.args.leaf in
    let spot = leaf_of s leaf.lane leaf.key in
    let w = c.args.writer in
    let v = c.loop-link.invariant in
    let f = g.P.Pass.held c.args.pass.now in
    let m = g.P.Pass.held c.loop-link.pass in
    let n = g.P.Pass.held c.load_cell-first.new.pass in
    let seen = (f.view).seen in
    let link = c.loop-link.link in
    let next = c.link_in-link.result in
    let some = c.loop-link-test.true in
    let st : HasWalkedOn s m n w spot seen (link - 1) next = subst (λ (k : ℕ). HasWalkedOn s m n w spot seen (link - 1) k) (sym c.link_in-link.ensures)
    (stepped_from s m n w spot seen link c.load_cell-first.result some c.shape-lawful.ensures.lawful c.requires.above.exists (some_cell s leaf.lane)
    (walked_seen f m v.walked.only) v.walking c.load_cell-first.ensures.made) in
    let falls = st.falls in
    let more = c.load_cell-first.ensures.steps in
    let here = below_next s w spot seen link some in
    let far = ap (λ (es : List Rattle.cf_row.specs.declared.row.Entry.Entry). length es) (walked_seen f m v.walked.only) in
    let covered = c.covered.ensures in
    let walked = did_then v.walked (record { only = st.walked; loads = cell_loads s m n _ _ _ c.load_cell-first.result _ _ c.load_cell-first.ensures.made more }) in
    elim c.if-place-covered.branch [
      | then-place-covered+in_ok-push x ↦
          let low = x.if-place-covered.true in
          let first : below s w spot seen link ≡ (link - 1) ∷ below s w spot seen next = here ∙ st.known (omega (arith, low, covered, far)) in
          let long = ap (λ (xs : List ℕ). length xs) first in
          record {
            walked = walked;
            walking = st.walking;
            found = kept_known (c.loop-link.found).items (c.if-place-covered.found).items (below s w spot seen link) (below s w spot seen next) _ (link - 1)
                (ap (λ (u : Vec ℕ Global). u.items) x.found-is ∙ x.in_ok-push.ensures.items) first v.found;
            count = counting_known s w f m n link next (link - 1) (length (below s w spot seen link)) (length (below s w spot seen next)) _ _ _ v.count st.met
                (omega (arith, falls)) long more;
          }
      | else-place-covered x ↦
          let high = x.if-place-covered.false in
          let first : below s w spot seen link ≡ below s w spot seen next = here ∙ st.new (omega (arith, high, covered, far)) in
          let long = ap (λ (xs : List ℕ). length xs) first in
          record {
            walked = walked;
            walking = st.walking;
            found = kept_new (c.if-place-covered.found).items (below s w spot seen link) (below s w spot seen next) _ first
                (ap (λ (u : Vec ℕ Global). u.items ++ below s w spot seen link) x.found-is ∙ v.found);
            count = counting_new s w f m n link next (length (below s w spot seen link)) (length (below s w spot seen next)) _ _ _ v.count st.met st.apart some
                (omega (arith, high, covered, far)) v.walking.low falls long more;
          }
    ]

pub returns-clause-found : goal.returns-clause-found
returns-clause-found g c =
    let s = c.args.log.now.shape in
    let leaf = c.args.leaf in
    let past = c.loop-link-test.false in
    kept_all s c.args.writer (leaf_of s leaf.lane leaf.key) ((g.P.Pass.held c.args.pass.now).view).seen c.loop-link.link (c.loop-link.found).items _
    (omega (arith, past)) c.loop-link.invariant.found

pub returns-clause-steps : goal.returns-clause-steps
returns-clause-steps g c =
    counting_ends c.args.log.now.shape c.args.writer (g.P.Pass.held c.args.pass.now) (g.P.Pass.held c.loop-link.pass) _ _ _ _ _ c.loop-link.invariant.count
