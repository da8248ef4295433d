use Rattle.std.proofs.Common.{refl, arith}
use Rattle.cf_append.proofs.Pathing.{remembers_still}
use Rattle.cf_alone.proofs.Alone.{placed, alone_then, covered, used_for}
use Rattle.cf_alone.proofs.Lacking.{enough_ok, lacking}
use Rattle.cf_alone.proofs.solo.append_counted.Goals as goal

pub settle-requires-clause-of : goal.settle-requires-clause-of
settle-requires-clause-of g c =
    Rattle.cf_table.proofs.Homing.still_one c.args.log.now c.args.pass.now c.append_near-answer.new.pass c.requires.solo.alone.of
    c.append_near-answer.ensures.appended.goes_on.same

pub settle-requires-clause-place : goal.settle-requires-clause-place
settle-requires-clause-place g c =
    let is = c.unwrap_or-offset.ensures in
    let low = placed c.args.log.now.shape c.args.row.now c.args.pass.now c.append_near-answer.new.pass c.append_near-answer.result
    c.shape-lawful.ensures.lawful.capacity.0 c.append_near-answer.ensures.appended.answer in
    omega (arith, is, low)

pub returns-clause-solo : goal.returns-clause-solo
returns-clause-solo g c =
    let log = c.args.log.now in
    let n = c.append_near-answer.new.pass in
    let o = c.settle.new.pass in
    let a = c.append_near-answer.ensures.appended in
    let s = c.settle.ensures.settled.moved in
    record {
      alone = alone_then log c.args.row.now c.args.pass.now n o c.append_near-answer.result c.requires.solo.alone a.goes_on a.rest a.answer s.goes_on s.books
          s.fit s.alone s.full;
      near = remembers_still log.shape n.view o.view c.append_near-answer.new.leaves s.goes_on.knows c.append_near-answer.ensures.near;
    }

pub returns-clause-come : goal.returns-clause-come
returns-clause-come g c =
    let log = c.args.log.now in
    let row = c.args.row.now in
    let m = c.args.pass.now in
    let n = c.append_near-answer.new.pass in
    let o = c.settle.new.pass in
    let r = c.append_near-answer.result in
    let a = c.append_near-answer.ensures.appended in
    let s = c.settle.ensures.settled.moved in
    let before = c.requires.solo.alone in
    let lawful = c.shape-lawful.ensures.lawful in
    let now = alone_then log row m n o r before a.goes_on a.rest a.answer s.goes_on s.books s.fit s.alone s.full in
    record {
      shape = refl;
      covered = covered log row m n o r before a.goes_on s.goes_on a.answer now s.books;
      nodes = used_for log.shape row m n o r a.answer s.books;
      enough = enough_ok log o r lawful now (s.paths now.one now.rest) s.bounds;
      lacks = lacking log row m n r lawful a.answer;
    }
