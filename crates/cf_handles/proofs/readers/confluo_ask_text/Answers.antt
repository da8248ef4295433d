use Rattle.std.proofs.Common.{Err, None, Ok, Some, refl}
use Rattle.cf_handles.proofs.Called.{if_lent, if_not_lent, line_by, no_line}
use Rattle.cf_handles.proofs.readers.confluo_ask_text.Goals as goal

pub returns-in_default : goal.returns-in_default
returns-in_default c = (None, no_line c.args.line.now c.args.reader.now.seat.held _ c.in_default.ensures.value (if_not_lent c.get_mut.result c.in_default.is c.get_mut.follows.holds-at-none), refl, refl, c.number.ensures)

pub returns-in-Ok : goal.returns-in-Ok
returns-in-Ok c = (
  Some (Ok c.in-Ok.found),
  line_by c.args.line.now c.args.reader.now.seat.held _ c.in-Some.reader.now c.ask_line.new.self (Ok c.in-Ok.found) c.in-Some.ensures.value
      (if_lent c.get_mut.result c.in-Some.reader c.in-Some.is (c.get_mut.follows.holds c.ask_line.new.self)) c.in-Ok.ensures,
  refl,
  refl,
  refl,
)

pub returns-in-Err : goal.returns-in-Err
returns-in-Err c = (
  Some (Err c.in-Err.refusal),
  line_by c.args.line.now c.args.reader.now.seat.held _ c.in-Some.reader.now c.ask_line.new.self (Err c.in-Err.refusal) c.in-Some.ensures.value
      (if_lent c.get_mut.result c.in-Some.reader c.in-Some.is (c.get_mut.follows.holds c.ask_line.new.self)) c.in-Err.ensures,
  refl,
  c.show_line_fault.ensures.fault,
  c.show_line_fault.ensures.number,
)
