use Rattle.std.proofs.Common.{◌≡◌, ◌∙◌, ◌∷◌, ◌++◌, ◌-◌, ◌≤◌, [], ap, refl, arith}
use Rattle.cf_fold.specs.Quads.{QuadValue, quad_of}
use Rattle.cf_shape.specs.Lanes.{ShapeValue, key_of, measure_of}
use Rattle.cf_law.specs.Words.{spot, link_to_newest}
use Rattle.cf_law.specs.Shapes.{layout}
use Rattle.cf_table.specs.Values.{book_of}
use Rattle.cf_append.specs.Linking.{key_path, leaf_chain, amounts_in_chain}
use Rattle.cf_append.proofs.Newest.{newest, top_few, amounts_few}
use Rattle.cf_append.proofs.links.quad_with.Goals as goal

pub overflow_cast-previous : goal.overflow_cast-previous
overflow_cast-previous g c =
    let s = c.args.log.now.shape in
    let key = key_of s c.args.lane c.args.row.now in
    let few = top_few s (spot c.args.lane (key_path s c.args.lane key)) (book_of c.args.pass.now.view) c.requires.book in
    let is = c.requires.previous in
    let room = c.shape.ensures.lawful.capacity in
    omega (arith, few, is, room)

pub cell_quad-before-requires : goal.cell_quad-before-requires
cell_quad-before-requires g c κs within =
    let s = c.args.log.now.shape in
    let key = key_of s c.args.lane c.args.row.now in
    let b = book_of c.args.pass.now.view in
    let is = c.requires.previous in
    let some = c.if-previous-eq0.false in
    let at : link_to_newest (leaf_chain s c.args.lane key b) ≡ Rattle.std.proofs.Common.suc (c.args.previous - 1) = omega (arith, is, some) in (
      within,
      (
        c.requires.of,
        (
          c.requires.one,
          (
            c.requires.book,
            ((c.requires.lane, c.requires.measured), newest (layout s) (spot c.args.lane (key_path s c.args.lane key)) b.mine (c.args.previous - 1) at),
          ),
        ),
      ),
    )

pub merge-requires : goal.merge-requires
merge-requires g c =
    let s = c.args.log.now.shape in
    let key = key_of s c.args.lane c.args.row.now in
    let b = book_of c.args.pass.now.view in
    let few = amounts_few s c.args.lane (spot c.args.lane (key_path s c.args.lane key)) b c.requires.book in
    let one = c.add-value.ensures.count in
    let is = ap (λ (q : QuadValue). q.count) c.cell_quad-before.ensures.quad in
    let room = c.shape.ensures.lawful.capacity in
    record { few = omega (arith, few, one, is, room) }

pub returns-clause-quad : goal.returns-clause-quad
returns-clause-quad g c =
    let s = c.args.log.now.shape in
    let key = key_of s c.args.lane c.args.row.now in
    let b = book_of c.args.pass.now.view in
    let l = c.args.lane in
    let value = c.measure.ensures ∙ ap (λ (h : ShapeValue). measure_of h l c.args.row.now) c.shape.ensures.shape in
    c.merge.ensures.merged (measure_of s l c.args.row.now ∷ []) (amounts_in_chain s l (leaf_chain s l key b))
    (c.add-value.ensures.added [] refl ∙ ap (λ v. quad_of (v ∷ [])) value) c.cell_quad-before.ensures.quad
