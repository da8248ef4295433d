use Rattle.std.proofs.Common.{◌∙◌, take, arith}
use Rattle.cf_fold.specs.Quads.{quad_of}
use Rattle.cf_law.specs.Words.{spot, link_to_newest}
use Rattle.cf_law.specs.Steps.{mine_chain}
use Rattle.cf_law.specs.Shapes.{layout}
use Rattle.cf_table.specs.Values.{book_of}
use Rattle.cf_append.proofs.Newest.{cell_place, may_read, read_books, quad_read}
use Rattle.cf_append.specs.Linking.{amounts_in_chain}
use Rattle.cf_append.proofs.links.cell_quad.Goals as goal

pub load_cell-first-requires-clause-place : goal.load_cell-first-requires-clause-place
load_cell-first-requires-clause-place g c =
    let r = c.requires.1.1.1 in
    cell_place c.args.log.now.shape (book_of c.args.pass.now.view) g.path c.args.offset c.args.lane 0 r.0 r.1.0 r.1.1 (omega arith)

pub load_cell-first-requires-clause-lawful : goal.load_cell-first-requires-clause-lawful
load_cell-first-requires-clause-lawful g c =
    let r = c.requires.1 in
    let m = c.args.pass.now in
    may_read c.args.log.now.shape m (book_of m.view) g.path c.args.offset c.args.lane 0 r.1.0 r.1.1.0 r.1.1.1.0 r.1.1.1.1 (omega arith)

pub load_cell-sum-requires-clause-place : goal.load_cell-sum-requires-clause-place
load_cell-sum-requires-clause-place g c =
    let r = c.requires.1.1.1 in
    cell_place c.args.log.now.shape (book_of c.args.pass.now.view) g.path c.args.offset c.args.lane 1 r.0 r.1.0 r.1.1 (omega arith)

pub load_cell-sum-requires-clause-lawful : goal.load_cell-sum-requires-clause-lawful
load_cell-sum-requires-clause-lawful g c =
    let r = c.requires.1 in
    let m = c.args.pass.now in
    let m1 = c.load_cell-first.new.pass in
    let one = read_books c.args.log.now.shape m m1 c.args.offset c.args.lane 0 c.load_cell-first.result c.load_cell-first.ensures.made ∙ r.1.0 in
    may_read c.args.log.now.shape m1 (book_of m.view) g.path c.args.offset c.args.lane 1 one r.1.1.0 r.1.1.1.0 r.1.1.1.1 (omega arith)

pub load_cell-ends-requires-clause-place : goal.load_cell-ends-requires-clause-place
load_cell-ends-requires-clause-place g c =
    let r = c.requires.1.1.1 in
    cell_place c.args.log.now.shape (book_of c.args.pass.now.view) g.path c.args.offset c.args.lane 2 r.0 r.1.0 r.1.1 (omega arith)

pub load_cell-ends-requires-clause-lawful : goal.load_cell-ends-requires-clause-lawful
load_cell-ends-requires-clause-lawful g c =
    let r = c.requires.1 in
    let m = c.args.pass.now in
    let m1 = c.load_cell-first.new.pass in
    let one = read_books c.args.log.now.shape m m1 c.args.offset c.args.lane 0 c.load_cell-first.result c.load_cell-first.ensures.made ∙ r.1.0 in
    let m2 = c.load_cell-sum.new.pass in
    let two = read_books c.args.log.now.shape m1 m2 c.args.offset c.args.lane 1 c.load_cell-sum.result c.load_cell-sum.ensures.made ∙ one in
    may_read c.args.log.now.shape m2 (book_of m.view) g.path c.args.offset c.args.lane 2 two r.1.1.0 r.1.1.1.0 r.1.1.1.1 (omega arith)

pub quad-requires : goal.quad-requires
quad-requires g c =
    let s = c.args.log.now.shape in
    let r = c.requires.1 in
    let b = book_of c.args.pass.now.view in
    let l = c.args.lane in (
      link_to_newest (mine_chain (layout s) (spot l g.path) (take r.1.1.1.1.place b.mine)),
      quad_of (amounts_in_chain s l (mine_chain (layout s) (spot l g.path) b.mine)),
      quad_read s c.args.pass.now c.load_cell-first.new.pass c.load_cell-sum.new.pass c.load_cell-ends.new.pass b g.path c.args.offset l
          c.load_cell-first.result c.load_cell-sum.result c.load_cell-ends.result c.shape-lawful.ensures.lawful r.1.0 r.1.1.0 r.1.1.1.0 r.1.1.1.1
          c.load_cell-first.ensures.made c.load_cell-sum.ensures.made c.load_cell-ends.ensures.made,
    )

pub returns-clause-quad : goal.returns-clause-quad
returns-clause-quad g c =
    let r = c.requires.1 in
    c.quad.ensures _ _
    (quad_read c.args.log.now.shape c.args.pass.now c.load_cell-first.new.pass c.load_cell-sum.new.pass c.load_cell-ends.new.pass
    (book_of c.args.pass.now.view) g.path c.args.offset c.args.lane c.load_cell-first.result c.load_cell-sum.result c.load_cell-ends.result
    c.shape-lawful.ensures.lawful r.1.0 r.1.1.0 r.1.1.1.0 r.1.1.1.1 c.load_cell-first.ensures.made c.load_cell-sum.ensures.made c.load_cell-ends.ensures.made)
