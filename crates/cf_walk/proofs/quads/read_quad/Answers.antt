use Rattle.std.proofs.Common.{◌∙◌, ◌<◌, List, length, inl, inr, sym, subst, arith}
use Rattle.std.proofs.lemmas.Option.{slice_get_within}
use Rattle.cf_row.specs.declared.row.Entry.{Entry}
use Rattle.cf_table.proofs.Mays.{may_cell}
use Rattle.cf_walk.proofs.Walked.{walked_seen}
use Rattle.cf_walk.proofs.Versions.{cell_only, cell_keeps, read}
use Rattle.cf_walk.proofs.quads.read_quad.Goals as goal
use Rattle.cf_law.proofs.Shapes.{three_words}

pub load_cell-first-requires-clause-lawful : goal.load_cell-first-requires-clause-lawful
load_cell-first-requires-clause-lawful g c =
    let s = c.args.log.now.shape in
    let x = c.requires.entry in
    let p = (g.P.Pass.held c.args.pass.now).view in
    let three = three_words s c.args.leaf.lane c.requires.measures.measured in
    may_cell s p c.args.place c.args.leaf.lane 0 c.requires.place c.requires.measures.exists (omega (arith, three))
    (inr (inl (slice_get_within p.seen c.args.place x.entry x.at)))

pub load_cell-sum-requires-clause-lawful : goal.load_cell-sum-requires-clause-lawful
load_cell-sum-requires-clause-lawful g c =
    let s = c.args.log.now.shape in
    let x = c.requires.entry in
    let m = g.P.Pass.held c.args.pass.now in
    let a = g.P.Pass.held c.load_cell-first.new.pass in
    let three = three_words s c.args.leaf.lane c.requires.measures.measured in
    let one = walked_seen m a (cell_only s m a c.args.place c.args.leaf.lane 0 c.load_cell-first.result c.load_cell-first.ensures.made) in
    may_cell s a.view c.args.place c.args.leaf.lane 1 c.requires.place c.requires.measures.exists (omega (arith, three))
    (inr (inl (subst (λ (es : List Entry). c.args.place < length es) (sym one) (slice_get_within (m.view).seen c.args.place x.entry x.at))))

pub load_cell-ends-requires-clause-lawful : goal.load_cell-ends-requires-clause-lawful
load_cell-ends-requires-clause-lawful g c =
    let s = c.args.log.now.shape in
    let x = c.requires.entry in
    let m = g.P.Pass.held c.args.pass.now in
    let a = g.P.Pass.held c.load_cell-first.new.pass in
    let b = g.P.Pass.held c.load_cell-sum.new.pass in
    let three = three_words s c.args.leaf.lane c.requires.measures.measured in
    let one = walked_seen m a (cell_only s m a c.args.place c.args.leaf.lane 0 c.load_cell-first.result c.load_cell-first.ensures.made) in
    let two = walked_seen a b (cell_only s a b c.args.place c.args.leaf.lane 1 c.load_cell-sum.result c.load_cell-sum.ensures.made) ∙ one in
    may_cell s b.view c.args.place c.args.leaf.lane 2 c.requires.place c.requires.measures.exists (omega (arith, three))
    (inr (inl (subst (λ (es : List Entry). c.args.place < length es) (sym two) (slice_get_within (m.view).seen c.args.place x.entry x.at))))

pub quad-requires : goal.quad-requires
quad-requires g c =
    let s = c.args.log.now.shape in
    let m = g.P.Pass.held c.args.pass.now in
    let a = g.P.Pass.held c.load_cell-first.new.pass in
    let b = g.P.Pass.held c.load_cell-sum.new.pass in
    let n = g.P.Pass.held c.load_cell-ends.new.pass in
    let one = walked_seen m a (cell_only s m a c.args.place c.args.leaf.lane 0 c.load_cell-first.result c.load_cell-first.ensures.made) in
    let two = walked_seen a b (cell_only s a b c.args.place c.args.leaf.lane 1 c.load_cell-sum.result c.load_cell-sum.ensures.made) ∙ one in (
      _,
      _,
      read s m a b n c.args.leaf.lane c.args.leaf.key c.args._writer c.args.place c.load_cell-first.result c.load_cell-sum.result c.load_cell-ends.result
          c.shape-lawful.ensures.lawful c.requires.measures.exists c.requires.measures.measured c.requires.place c.requires.entry c.requires.measures.reads.fit one two
          c.load_cell-first.ensures.made c.load_cell-sum.ensures.made c.load_cell-ends.ensures.made,
    )

pub returns-clause-quad : goal.returns-clause-quad
returns-clause-quad g c =
    let s = c.args.log.now.shape in
    let m = g.P.Pass.held c.args.pass.now in
    let a = g.P.Pass.held c.load_cell-first.new.pass in
    let b = g.P.Pass.held c.load_cell-sum.new.pass in
    let n = g.P.Pass.held c.load_cell-ends.new.pass in
    let one = walked_seen m a (cell_only s m a c.args.place c.args.leaf.lane 0 c.load_cell-first.result c.load_cell-first.ensures.made) in
    let two = walked_seen a b (cell_only s a b c.args.place c.args.leaf.lane 1 c.load_cell-sum.result c.load_cell-sum.ensures.made) ∙ one in
    c.quad.ensures _ _
    (read s m a b n c.args.leaf.lane c.args.leaf.key c.args._writer c.args.place c.load_cell-first.result c.load_cell-sum.result c.load_cell-ends.result
    c.shape-lawful.ensures.lawful c.requires.measures.exists c.requires.measures.measured c.requires.place c.requires.entry c.requires.measures.reads.fit one two
    c.load_cell-first.ensures.made c.load_cell-sum.ensures.made c.load_cell-ends.ensures.made)

pub returns-clause-met : goal.returns-clause-met
returns-clause-met g c k v x =
    let s = c.args.log.now.shape in
    let m = g.P.Pass.held c.args.pass.now in
    let a = g.P.Pass.held c.load_cell-first.new.pass in
    let b = g.P.Pass.held c.load_cell-sum.new.pass in
    let n = g.P.Pass.held c.load_cell-ends.new.pass in
    cell_keeps s b n c.args.place c.args.leaf.lane 2 c.load_cell-ends.result c.load_cell-ends.ensures.made k v
    (cell_keeps s a b c.args.place c.args.leaf.lane 1 c.load_cell-sum.result c.load_cell-sum.ensures.made k v
    (cell_keeps s m a c.args.place c.args.leaf.lane 0 c.load_cell-first.result c.load_cell-first.ensures.made k v x))
