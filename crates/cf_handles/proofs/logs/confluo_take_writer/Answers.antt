use Rattle.std.proofs.Common.{◌∙◌, Err, Ok, ap, refl}
use Rattle.cf_store.specs.declared.held.Writer.{Writer}
use Rattle.cf_table.specs.Values.{book_of}
use Rattle.cf_handles.specs.Calls.{TakesTo}
use Rattle.cf_handles.proofs.Called.{if_lent, if_not_lent, nothing_told, told}
use Rattle.cf_handles.proofs.logs.confluo_take_writer.Goals as goal

pub returns-in_default : goal.returns-in_default
returns-in_default c = nothing_told (TakesTo c.args.writer.now.seat.held c.args.writer.now.seat.held) c.args.log.now.seat.held _ c.args.number.now c.number.result c.in_default.ensures.value (if_not_lent c.get_mut.result c.in_default.is c.get_mut.follows.holds-at-none) c.number.ensures

pub returns-in-Ok : goal.returns-in-Ok
returns-in-Ok c =
    told (TakesTo c.args.writer.now.seat.held c.put.new.self.seat.held) c.args.log.now.seat.held _ c.in-Some.log.now c.next_writer.new.self (Ok c.from-found.result) c.args.number.now
    c.from-found.result 0 c.in-Some.ensures.value (if_lent c.get_mut.result c.in-Some.log c.in-Some.is (c.get_mut.follows.holds c.next_writer.new.self)) (
      c.in-Ok.taken.value,
      c.put.ensures,
      c.in-Ok.ensures,
      c.from-found.ensures ∙ c.number-in-Ok.ensures ∙ ap (λ (w : Writer). (book_of w.pass.view).writer) c.deref.ensures,
    ) refl refl

pub returns-in-Err : goal.returns-in-Err
returns-in-Err c =
    told (TakesTo c.args.writer.now.seat.held c.args.writer.now.seat.held) c.args.log.now.seat.held _ c.in-Some.log.now c.next_writer.new.self (Err c.of_take.result) c.args.number.now c.args.number.now
    c.number-in-Err.result c.in-Some.ensures.value (if_lent c.get_mut.result c.in-Some.log c.in-Some.is (c.get_mut.follows.holds c.next_writer.new.self))
    (refl, (Err c.in-Err.refusal, c.in-Err.ensures, ap Err c.of_take.ensures)) c.number-in-Err.ensures refl
