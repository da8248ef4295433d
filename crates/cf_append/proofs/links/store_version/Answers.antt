use Rattle.std.proofs.Common.{ℕ, List, ◌∙◌, ◌≡◌, ◌-◌, ◌/◌, ◌%◌, ◌∷◌, Some, false, true, ap, sym, subst, arith}
use Rattle.std.proofs.lemmas.Grind.{common_steps}
use Rattle.cf_shape.proofs.Bounds.{ticket_few}
use Rattle.cf_shape.specs.Nodes.{levels_of}
use Rattle.cf_law.specs.Nibbles.{nibbles}
use Rattle.cf_law.proofs.Nibbles.{length-nibbles}
use Rattle.cf_append.proofs.Walking.{strides_then, one_book, same_book}
use Rattle.cf_row.specs.Row.{RowValue}
use Rattle.cf_fold.specs.Quads.{QuadValue, quad_of}
use Rattle.cf_shape.specs.Lanes.{ShapeValue, lane_at, key_of, measure_of}
use Rattle.cf_shape.specs.Uses.{cell_words, is_measured}
use Rattle.cf_law.specs.Words.{spot, link_to_newest}
use Rattle.cf_law.specs.Passes.{Book}
use Rattle.cf_law.specs.Shapes.{path_in}
use Rattle.cf_table.specs.Values.{book_of}
use Rattle.cf_table.proofs.Homing.{still_one}
use Rattle.cf_append.specs.Linking.{amounts_in_chain, key_path, leaf_chain}
use Rattle.cf_append.proofs.Newest.{amounts_few, top_few, quad_cell}
use Rattle.cf_shape.proofs.KeyLevels.{levels_two}
use Rattle.cf_append.proofs.Pathing.{filed_some, filed_none, filed_path}
use Rattle.cf_append.proofs.Cells.{cell_next, cell_low, unmeasured_next, filed_newest, book_same, filled_skip, filled_more, may_version, store_strides}
use Rattle.cf_append.proofs.links.store_version.Goals as goal
use Rattle.cf_law.proofs.Shapes.{three_words}

pub overflow_add-result : goal.overflow_add-result
overflow_add-result g c =
    let s = c.args.log.now.shape in
    let at = c.requires.at in
    let wide = c.cell_size.ensures ∙ ap (λ (h : ShapeValue). cell_words (lane_at h c.args.cell.lane)) c.shape-shape.ensures.shape in
    omega (arith, at, wide, cell_low s c.args.cell.lane c.requires.lane, ticket_few s c.shape-shape.ensures.lawful)

pub overflow_add-result-2 : goal.overflow_add-result-2
overflow_add-result-2 g c =
    let s = c.args.log.now.shape in
    let at = c.requires.at in
    omega (arith, at, cell_low s c.args.cell.lane c.requires.lane, ticket_few s c.shape-shape.ensures.lawful)

pub returns-in_default-clause-filled : goal.returns-in_default-clause-filled
returns-in_default-clause-filled g c =
    let s = c.args.log.now.shape in
    filled_skip s c.args.cell.offset c.args.row.now c.args.cell.lane c.args.pass.now c.args.pass.now c.requires.lane
    (filed_none s c.args.row.now c.args.pass.now.view c.args.cell.lane c.args.filing c.in_default.is c.requires.filing) c.requires.filled

pub returns-in_default-clause-next : goal.returns-in_default-clause-next
returns-in_default-clause-next g c =
    let s = c.args.log.now.shape in
    let at = c.requires.at in
    let wide = c.cell_size.ensures ∙ ap (λ (h : ShapeValue). cell_words (lane_at h c.args.cell.lane)) c.shape-shape.ensures.shape in
    omega (arith, at, wide, cell_next s c.args.cell.lane c.requires.lane)

pub returns-clause-next : goal.returns-clause-next
returns-clause-next g c =
    let s = c.args.log.now.shape in
    let at = c.requires.at in
    let bare : is_measured s c.args.cell.lane ≡ false = ap (λ (h : ShapeValue). is_measured h c.args.cell.lane) (sym c.shape-shape.ensures.shape)
    ∙ (sym c.measures.ensures ∙ c.if-measures.false) in
    omega (arith, at, unmeasured_next s c.args.cell.lane c.requires.lane bare)

pub own_head-previous-requires : goal.own_head-previous-requires
own_head-previous-requires g c κs within =
    let s = c.args.log.now.shape in
    let l = c.args.cell.lane in
    let row = c.args.row.now in
    let key = c.in-Some.at.key in
    let many = levels_two s l c.shape-shape.ensures.lawful c.requires.lane in
    let filed = filed_some s row c.args.pass.now.view l c.args.filing c.in-Some.at c.in-Some.is c.requires.filing in (
      within,
      (
        c.requires.of,
        (
          one_book c.args.pass.now.view _ c.requires.filled.books,
          (
            c.requires.book.writer,
            (filed.node, omega (arith, many, length-nibbles (levels_of s l - 1) (key / 16))),
          ),
        ),
      ),
    )

pub store_cell-requires-clause-place : goal.store_cell-requires-clause-place
store_cell-requires-clause-place g c =
    let s = c.args.log.now.shape in
    let at = c.requires.at in
    (c.requires.place, omega (arith, at, cell_low s c.args.cell.lane c.requires.lane))

pub store_cell-requires-clause-lawful : goal.store_cell-requires-clause-lawful
store_cell-requires-clause-lawful g c =
    let s = c.args.log.now.shape in
    let bare : is_measured s c.args.cell.lane ≡ false = ap (λ (h : ShapeValue). is_measured h c.args.cell.lane) (sym c.shape-shape.ensures.shape)
    ∙ (sym c.measures.ensures ∙ c.if-measures.false) in
    let l = c.args.cell.lane in
    let row = c.args.row.now in
    let key = c.in-Some.at.key in
    let many = levels_two s l c.shape-shape.ensures.lawful c.requires.lane in
    let filed = filed_some s row c.args.pass.now.view l c.args.filing c.in-Some.at c.in-Some.is c.requires.filing in
    let leads = filed_path s row l c.args.pass.now.view c.in-Some.at many filed in
    may_version s c.args.pass.now c.own_head-previous.new.pass c.args.cell.offset l c.args.cell.from c.own_head-previous.result row
    (key % 16 ∷ nibbles (levels_of s l - 1) (key / 16)) c.requires.filled c.own_head-previous.ensures.reads.books c.requires.lane bare c.requires.at
    leads c.own_head-previous.ensures.head

pub returns-clause-kept : goal.returns-clause-kept
returns-clause-kept g c =
    let p = c.args.pass.now in
    let n = c.own_head-previous.new.pass in
    let z = c.store_cell.new.pass in
    let went = strides_then p n z c.own_head-previous.ensures.reads.strides
    (store_strides c.args.log.now.shape n z c.args.cell.offset c.args.cell.from c.own_head-previous.result c.store_cell.ensures.made) in
    record { of = still_one c.args.log.now p z c.requires.of went.same; strides = went; loads = grind (arith, common_steps) }

pub returns-clause-filled : goal.returns-clause-filled
returns-clause-filled g c =
    let s = c.args.log.now.shape in
    let bare : is_measured s c.args.cell.lane ≡ false = ap (λ (h : ShapeValue). is_measured h c.args.cell.lane) (sym c.shape-shape.ensures.shape)
    ∙ (sym c.measures.ensures ∙ c.if-measures.false) in
    filled_more c.args.log.now.shape c.args.pass.now c.own_head-previous.new.pass c.store_cell.new.pass c.args.cell.offset c.args.cell.lane c.args.cell.from
    c.own_head-previous.result c.args.row.now c.requires.filled c.own_head-previous.ensures.reads.books c.requires.lane bare c.requires.at
    c.store_cell.ensures.made

pub quad_with-quad-requires-clause-previous : goal.quad_with-quad-requires-clause-previous
quad_with-quad-requires-clause-previous g c =
    filed_newest c.args.log.now.shape c.args.row.now c.args.pass.now c.own_head-previous.new.pass c.args.cell.offset c.args.cell.lane
    c.own_head-previous.result c.args.filing c.in-Some.at c.in-Some.is c.requires.filing c.requires.filled c.own_head-previous.ensures.reads.books
    c.own_head-previous.ensures.head

pub of-words-requires-clause-link : goal.of-words-requires-clause-link
of-words-requires-clause-link g c =
    let s = c.args.log.now.shape in
    let l = c.args.cell.lane in
    let key = key_of s l c.args.row.now in
    let n = c.own_head-previous.new.pass in
    let previous =
    filed_newest c.args.log.now.shape c.args.row.now c.args.pass.now c.own_head-previous.new.pass c.args.cell.offset c.args.cell.lane
    c.own_head-previous.result c.args.filing c.in-Some.at c.in-Some.is c.requires.filing c.requires.filled c.own_head-previous.ensures.reads.books
    c.own_head-previous.ensures.head in
    let own = book_same s c.args.pass.now n c.requires.book c.own_head-previous.ensures.reads.books in
    let room = c.shape-shape.ensures.lawful.capacity in
    let most = top_few s (spot l (key_path s l key)) (book_of n.view) own in
    omega (arith, room, previous, most)

pub of-words-requires-clause-few : goal.of-words-requires-clause-few
of-words-requires-clause-few g c =
    let s = c.args.log.now.shape in
    let l = c.args.cell.lane in
    let key = key_of s l c.args.row.now in
    let m = c.args.pass.now in
    let n = c.own_head-previous.new.pass in
    let own = book_same s m n c.requires.book c.own_head-previous.ensures.reads.books in
    let quad = c.quad_with-quad.ensures.quad in
    let count = ap (λ (q : QuadValue). q.count) quad in
    let few = amounts_few s l (spot l (key_path s l key)) (book_of n.view) own in
    let room = c.shape-shape.ensures.lawful.capacity in
    omega (arith, count, few, room)

pub store_three-requires-clause-leads : goal.store_three-requires-clause-leads
store_three-requires-clause-leads g c =
    let s = c.args.log.now.shape in
    let l = c.args.cell.lane in
    let row = c.args.row.now in
    let many = levels_two s l c.shape-shape.ensures.lawful c.requires.lane in
    let filed = filed_some s row c.args.pass.now.view l c.args.filing c.in-Some.at c.in-Some.is c.requires.filing in
    subst (λ (k : ℕ). path_in s row l ≡ Some (key_path s l k)) filed.key (filed_path s row l c.args.pass.now.view c.in-Some.at many filed)

pub store_three-requires-clause-words : goal.store_three-requires-clause-words
store_three-requires-clause-words g c =
    let s = c.args.log.now.shape in
    let l = c.args.cell.lane in
    let row = c.args.row.now in
    let key = key_of s l row in
    let same = c.shape-shape.ensures.shape in
    let n = c.own_head-previous.new.pass in
    let previous =
    filed_newest c.args.log.now.shape c.args.row.now c.args.pass.now c.own_head-previous.new.pass c.args.cell.offset c.args.cell.lane
    c.own_head-previous.result c.args.filing c.in-Some.at c.in-Some.is c.requires.filing c.requires.filled c.own_head-previous.ensures.reads.books
    c.own_head-previous.ensures.head in
    let z = c.quad_with-quad.new.pass in
    let measured : is_measured s l ≡ true = ap (λ (x : ShapeValue). is_measured x l) (sym same) ∙ (sym c.measures.ensures ∙ c.if-measures.true) in
    let kept = same_book n z c.quad_with-quad.ensures.reads.books in
    let chain = ap (λ (b : Book). leaf_chain s l key b) (sym kept) in
    quad_cell s l (leaf_chain s l key (book_of z.view)) row c.quad_with-quad.result c.own_head-previous.result c.of-words.result measured
    (previous ∙ ap link_to_newest chain)
    (c.quad_with-quad.ensures.quad ∙ ap (λ (d : List (ℕ × RowValue)). quad_of (measure_of s l row ∷ amounts_in_chain s l d)) chain)
    c.of-words.ensures

pub overflow_add-result-then-measures : goal.overflow_add-result-then-measures
overflow_add-result-then-measures g c =
    let s = c.args.log.now.shape in
    let at = c.requires.at in
    let measured : is_measured s c.args.cell.lane ≡ true = ap (λ (x : ShapeValue). is_measured x c.args.cell.lane) (sym c.shape-shape.ensures.shape)
    ∙ (sym c.measures.ensures ∙ c.if-measures.true) in
    omega (arith, at, three_words s c.args.cell.lane measured, cell_low s c.args.cell.lane c.requires.lane, ticket_few s c.shape-shape.ensures.lawful)

pub returns-then-measures-clause-next : goal.returns-then-measures-clause-next
returns-then-measures-clause-next g c =
    let s = c.args.log.now.shape in
    let at = c.requires.at in
    let measured : is_measured s c.args.cell.lane ≡ true = ap (λ (x : ShapeValue). is_measured x c.args.cell.lane) (sym c.shape-shape.ensures.shape)
    ∙ (sym c.measures.ensures ∙ c.if-measures.true) in
    omega (arith, at, three_words s c.args.cell.lane measured, cell_next s c.args.cell.lane c.requires.lane)
