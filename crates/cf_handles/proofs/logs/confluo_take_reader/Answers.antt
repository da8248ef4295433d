use Rattle.std.proofs.Common.{Err, Ok, refl}
use Rattle.cf_handles.specs.declared.code.Code.TheVariants as codes
use Rattle.cf_handles.specs.Calls.{ForksTo}
use Rattle.cf_handles.proofs.Called.{by_handle, if_lent, if_not_lent, nothing_by}
use Rattle.cf_handles.proofs.logs.confluo_take_reader.Goals as goal

pub returns-in_default : goal.returns-in_default
returns-in_default c = (Err codes.Nothing, nothing_by (ForksTo c.args.reader.now.seat.held c.args.reader.now.seat.held) c.args.log.now.seat.held _ c.in_default.ensures.value (if_not_lent c.get_mut.result c.in_default.is c.get_mut.follows.holds-at-none), c.number.ensures)

pub returns-in-Ok : goal.returns-in-Ok
returns-in-Ok c = (
  Ok tt,
  by_handle (ForksTo c.args.reader.now.seat.held c.put.new.self.seat.held) c.args.log.now.seat.held _ c.in-Some.log.now c.next_reader.new.self (Ok tt) c.in-Some.ensures.value
      (if_lent c.get_mut.result c.in-Some.log c.in-Some.is (c.get_mut.follows.holds c.next_reader.new.self)) (c.in-Ok.taken.value, c.put.ensures, c.in-Ok.ensures),
  refl,
)

pub returns-in-Err : goal.returns-in-Err
returns-in-Err c = (
  Err codes.Memory,
  by_handle (ForksTo c.args.reader.now.seat.held c.args.reader.now.seat.held) c.args.log.now.seat.held _ c.in-Some.log.now c.next_reader.new.self (Err codes.Memory) c.in-Some.ensures.value
      (if_lent c.get_mut.result c.in-Some.log c.in-Some.is (c.get_mut.follows.holds c.next_reader.new.self)) (refl, refl, (c.in-Err.field-0, c.in-Err.ensures)),
  c.number-in-Err.ensures,
)
