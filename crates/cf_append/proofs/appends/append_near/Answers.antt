use Rattle.std.proofs.Common.{◌∙◌, ◌+◌, ◌-◌, ◌*◌, ◌≤◌, inr, length, map, List, ap, refl, sym, arith, rules}
use Rattle.cf_row.specs.Words.{word_count}
use Rattle.cf_row.specs.declared.row.Entry.{Entry}
use Rattle.cf_shape.specs.Lanes.{ShapeValue}
use Rattle.cf_table.specs.Values.{book_of}
use Rattle.cf_append.specs.Appends.{HasMade, with_mark, with_own}
use Rattle.cf_append.specs.Paths.{KeepsSeen, with_nodes}
use Rattle.cf_append.proofs.Appending.{may_begin, rests_by}
use Rattle.cf_append.proofs.Pathing.{filings_still, filings_leaves, leaf_of, remembers_still}
use Rattle.cf_append.proofs.Cells.{may_close}
use Rattle.cf_append.proofs.Settling.{knows_still, goes_then}
use Rattle.cf_append.proofs.Walking.{strides_then}
use Rattle.cf_append.proofs.Whole.{goes_by, HasBegun, HasCells, HasEnded, begun_book, begun_self, begun_filings, cells_self, cells_writer, ended_strides, appended, appended_stops, late, late_strides, took_first, all_steps, path_within}
use Rattle.cf_append.proofs.appends.append_near.Given.{Over}
use Rattle.cf_append.proofs.appends.append_near.Goals as goal
use Rattle.cf_append.proofs.appends.append_near.Goals.{After-fill, After-fill_cells}

pub returns-in_default-clause-steps : goal.returns-in_default-clause-steps
returns-in_default-clause-steps g c =
    let s = c.args.log.now.shape in
    let some = c.make_paths.ensures.steps in
    omega (arith, some, path_within s (length s.lanes))

pub take_ticket-found-requires-clause-lawful : goal.take_ticket-found-requires-clause-lawful
take_ticket-found-requires-clause-lawful g c =
    let is = c.num-number.ensures in
    let low = c.num-number.type_inv in
    let over = ap (λ b. b.over) (Rattle.cf_table.proofs.Mays.the_book c.make_paths.new.pass.view _ c.make_paths.ensures.made.used.books) in
    may_begin c.args.log.now.shape c.make_paths.new.pass.view c.args.row.now c.requires.may.fits (omega (arith, is, low)) c.make_paths.ensures.made.rest
    (over ∙ (sym c.over.ensures ∙ c.if-over.false))

pub returns-then-found-from-clause-appended : goal.returns-then-found-from-clause-appended
returns-then-found-from-clause-appended g c =
    let s = c.args.log.now.shape in
    let row = c.args.row.now in
    let m = c.args.pass.now in
    let p = c.make_paths.new.pass in
    let q = c.take_ticket-found.new.pass in
    let past = c.if-found-from.true in
    let wide = c.from.ensures in
    let room = c.capacity.ensures.capacity ∙ ap (λ (x : ShapeValue). x.capacity) c.shape.ensures.shape in
    let P : HasMade s row m p =
    record {
      strides = c.make_paths.ensures.made.strides;
      used = c.make_paths.ensures.made.used;
      leaves = map leaf_of c.in-Some.filed;
      whole = filings_leaves s row p.view c.in-Some.filed (length s.lanes) c.shape.ensures.lawful (omega arith) c.in-Some.ensures.made.answer;
    } in
    let is = late s row m p q c.take_ticket-found.result (sym c.over.ensures ∙ c.if-over.false) P (omega (arith, past, wide, room))
    c.take_ticket-found.ensures.made in
    record {
      goes_on = goes_by m q (strides_then m p q c.make_paths.ensures.made.strides (late_strides s p q c.take_ticket-found.result row c.take_ticket-found.ensures.made));
      rest = rests_by q.view (with_mark (with_nodes is.paths.used.spots is.paths.used.label (book_of m.view))) is.books c.requires.may.rest.free;
      answer = inr is;
      begins = λ so. took_first s p q c.take_ticket-found.result row c.take_ticket-found.ensures.made;
      stops = search rules;
      alone = λ one. search rules;
    }

pub returns-then-found-from-clause-steps : goal.returns-then-found-from-clause-steps
returns-then-found-from-clause-steps g c =
    let s = c.args.log.now.shape in
    let some = c.make_paths.ensures.steps in
    let one = c.take_ticket-found.ensures.steps in
    omega (arith, some, one, path_within s (length s.lanes))

-- the ticket was taken and filled
begun : (g : Over) (c : After-fill g)
    → HasBegun c.args.log.now.shape c.args.row.now c.make_paths.new.pass c.take_ticket-found.new.pass c.fill.new.pass c.take_ticket-found.result
begun g c =
    let low = c.if-found-from.false in
    let wide = c.from.ensures in
    let room = c.capacity.ensures.capacity ∙ ap (λ (x : ShapeValue). x.capacity) c.shape.ensures.shape in
    record { room = omega (arith, low, wide, room); took = c.take_ticket-found.ensures.made; is = c.fill.ensures.pass }

pub fill_cells-requires-clause-book : goal.fill_cells-requires-clause-book
fill_cells-requires-clause-book g c =
    let s = c.args.log.now.shape in
    let row = c.args.row.now in
    begun_book s row c.make_paths.new.pass c.take_ticket-found.new.pass c.fill.new.pass c.take_ticket-found.result
    (begun g (goal.at.fill_cells-requires-clause-book g c).After-fill)

pub fill_cells-requires-clause-filled : goal.fill_cells-requires-clause-filled
fill_cells-requires-clause-filled g c =
    let s = c.args.log.now.shape in
    let row = c.args.row.now in
    begun_self s row c.make_paths.new.pass c.take_ticket-found.new.pass c.fill.new.pass c.take_ticket-found.result
    (begun g (goal.at.fill_cells-requires-clause-filled g c).After-fill)

pub fill_cells-requires-clause-filed : goal.fill_cells-requires-clause-filed
fill_cells-requires-clause-filed g c =
    let s = c.args.log.now.shape in
    let row = c.args.row.now in
    begun_filings s row c.make_paths.new.pass c.take_ticket-found.new.pass c.fill.new.pass c.take_ticket-found.result c.in-Some.filed
    (length s.lanes) (begun g (goal.at.fill_cells-requires-clause-filed g c).After-fill) c.in-Some.ensures.made.answer

-- and its cells
cells : (g : Over) (c : After-fill_cells g)
    → HasCells c.args.log.now.shape c.args.row.now c.make_paths.new.pass c.take_ticket-found.new.pass c.fill.new.pass c.fill_cells.new.pass
    c.take_ticket-found.result
cells g c =
    let low = c.if-found-from.false in
    let wide = c.from.ensures in
    let room = c.capacity.ensures.capacity ∙ ap (λ (x : ShapeValue). x.capacity) c.shape.ensures.shape in
    record {
      begun = record { room = omega (arith, low, wide, room); took = c.take_ticket-found.ensures.made; is = c.fill.ensures.pass };
      strides = c.fill_cells.ensures.kept.strides;
      filled = c.fill_cells.ensures.filled;
    }

pub link_all-requires-clause-writer : goal.link_all-requires-clause-writer
link_all-requires-clause-writer g c =
    let s = c.args.log.now.shape in
    let row = c.args.row.now in
    cells_writer s row c.make_paths.new.pass c.take_ticket-found.new.pass c.fill.new.pass c.fill_cells.new.pass c.take_ticket-found.result
    (cells g (goal.at.link_all-requires-clause-writer g c).After-fill_cells)

pub link_all-requires-clause-linked : goal.link_all-requires-clause-linked
link_all-requires-clause-linked g c =
    let s = c.args.log.now.shape in
    let row = c.args.row.now in
    cells_self s row c.make_paths.new.pass c.take_ticket-found.new.pass c.fill.new.pass c.fill_cells.new.pass c.take_ticket-found.result
    (cells g (goal.at.link_all-requires-clause-linked g c).After-fill_cells)

pub link_all-requires-clause-filed : goal.link_all-requires-clause-filed
link_all-requires-clause-filed g c =
    let s = c.args.log.now.shape in
    let row = c.args.row.now in
    filings_still s row c.fill.new.pass c.fill_cells.new.pass c.in-Some.filed (length s.lanes) c.fill_cells.ensures.kept.strides
    (begun_filings s row c.make_paths.new.pass c.take_ticket-found.new.pass c.fill.new.pass c.take_ticket-found.result c.in-Some.filed
    (length s.lanes) (cells g (goal.at.link_all-requires-clause-filed g c).After-fill_cells).begun c.in-Some.ensures.made.answer)

pub finish_record-requires-clause-lawful : goal.finish_record-requires-clause-lawful
finish_record-requires-clause-lawful g c =
    may_close c.args.log.now.shape c.fill_cells.new.pass c.link_all.new.pass c.take_ticket-found.result c.args.row.now c.shape.ensures.lawful
    c.link_all.ensures.linked

-- the record was finished
made : (g : Over) (c : goal.After-move_tail g) → HasMade c.args.log.now.shape c.args.row.now c.args.pass.now c.make_paths.new.pass
made g c =
    let s = c.args.log.now.shape in
    record {
      strides = c.make_paths.ensures.made.strides;
      used = c.make_paths.ensures.made.used;
      leaves = map leaf_of c.in-Some.filed;
      whole = filings_leaves s c.args.row.now c.make_paths.new.pass.view c.in-Some.filed (length s.lanes) c.shape.ensures.lawful (omega arith)
          c.in-Some.ensures.made.answer;
    }

ended : (g : Over) (c : goal.After-move_tail g)
    → HasEnded c.args.log.now.shape c.args.row.now c.make_paths.new.pass c.take_ticket-found.new.pass c.fill.new.pass c.fill_cells.new.pass
    c.link_all.new.pass c.finish_record.new.pass c.take_ticket-found.result
ended g c =
    let low = c.if-found-from.false in
    let wide = c.from.ensures in
    let room = c.capacity.ensures.capacity ∙ ap (λ (x : ShapeValue). x.capacity) c.shape.ensures.shape in
    record {
      cells = record {
        begun = record { room = omega (arith, low, wide, room); took = c.take_ticket-found.ensures.made; is = c.fill.ensures.pass };
        strides = c.fill_cells.ensures.kept.strides;
        filled = c.fill_cells.ensures.filled;
      };
      strides = c.link_all.ensures.kept.strides;
      linked = c.link_all.ensures.linked;
      finishes = c.finish_record.ensures.made;
    }

went : (g : Over) (c : goal.After-move_tail g) → KeepsSeen c.make_paths.new.pass c.finish_record.new.pass
went g c =
    ended_strides c.args.log.now.shape c.args.row.now c.make_paths.new.pass c.take_ticket-found.new.pass c.fill.new.pass c.fill_cells.new.pass
    c.link_all.new.pass c.finish_record.new.pass c.take_ticket-found.result (ended g c)

-- the steps since the paths were made
stepped : (g : Over) (c : goal.After-move_tail g)
    → c.move_tail.new.steps ≤ c.make_paths.new.steps + word_count c.args.log.now.shape.schema + 3 + 8 * length c.args.log.now.shape.lanes
    + 2 * (length (c.move_tail.new.pass.view).seen - length (c.args.pass.now.view).seen + 1)
stepped g c =
    let before = ap (λ (es : List Entry). length es) c.make_paths.ensures.made.strides.seen in
    let after = ap (λ (es : List Entry). length es) (went g c).seen in
    let two = c.take_ticket-found.ensures.steps in
    let three = c.fill.ensures.steps in
    let four = c.fill_cells.ensures.steps in
    let five = c.link_all.ensures.steps in
    let six = c.finish_record.ensures.steps in
    let seven = c.move_tail.ensures.steps in
    omega (arith, before, after, two, three, four, five, six, seven)

pub returns-clause-appended : goal.returns-clause-appended
returns-clause-appended g c =
    let s = c.args.log.now.shape in
    let row = c.args.row.now in
    let m = c.args.pass.now in
    let p = c.make_paths.new.pass in
    let d = c.finish_record.new.pass in
    let z = c.move_tail.new.pass in
    let o = c.take_ticket-found.result in
    let made = made g c in
    let ended = ended g c in
    let moved = c.move_tail.ensures.moved in
    let is = appended s row m p c.take_ticket-found.new.pass c.fill.new.pass c.fill_cells.new.pass c.link_all.new.pass d z o
    (sym c.over.ensures ∙ c.if-over.false) made ended moved.books moved.stops in
    let rest = rests_by z.view (with_own o row (with_nodes is.paths.used.spots is.paths.used.label (book_of m.view))) is.books refl in
    record {
      goes_on = goes_then m d z (goes_by m d (strides_then m p d c.make_paths.ensures.made.strides (went g c))) moved.goes_on;
      rest = rest;
      answer = is;
      begins = λ so. moved.begins;
      stops = appended_stops s row m p c.take_ticket-found.new.pass c.fill.new.pass c.fill_cells.new.pass c.link_all.new.pass d z o made ended moved.stops;
      alone = λ one. moved.alone one rest;
    }

pub returns-then-found-from-clause-near : goal.returns-then-found-from-clause-near
returns-then-found-from-clause-near g c =
    let s = c.args.log.now.shape in
    let row = c.args.row.now in
    let p = c.make_paths.new.pass in
    let t = c.take_ticket-found.new.pass in
    remembers_still s p.view t.view c.make_paths.new.leaves
    (late_strides s p t c.take_ticket-found.result row c.take_ticket-found.ensures.made).knows c.make_paths.ensures.near

pub returns-clause-near : goal.returns-clause-near
returns-clause-near g c =
    let s = c.args.log.now.shape in
    let d = c.finish_record.new.pass in
    remembers_still s d.view c.move_tail.new.pass.view c.make_paths.new.leaves (knows_still d.view c.move_tail.new.pass.view c.move_tail.ensures.known)
    (remembers_still s c.make_paths.new.pass.view d.view c.make_paths.new.leaves (went g c).knows c.make_paths.ensures.near)

pub returns-clause-steps : goal.returns-clause-steps
returns-clause-steps g c =
    let s = c.args.log.now.shape in
    let some = c.make_paths.ensures.steps in
    let rest = stepped g c in
    let all = all_steps s (length s.lanes) c.shape.ensures.lawful (omega arith) in
    omega (arith, some, rest, all)

pub returns-in_default-clause-near_steps : goal.returns-in_default-clause-near_steps
returns-in_default-clause-near_steps g c = λ kept. (let some = c.make_paths.ensures.near_steps kept in omega (arith, some))

pub returns-then-found-from-clause-near_steps : goal.returns-then-found-from-clause-near_steps
returns-then-found-from-clause-near_steps g c = λ kept.
    let some = c.make_paths.ensures.near_steps kept in
    let one = c.take_ticket-found.ensures.steps in
    omega (arith, some, one)

pub returns-clause-near_steps : goal.returns-clause-near_steps
returns-clause-near_steps g c = λ kept.
    let some = c.make_paths.ensures.near_steps kept in
    let rest = stepped g c in
    omega (arith, some, rest)
