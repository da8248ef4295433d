use Rattle.cf_store.specs.Appends.{AppendsValues}
use Rattle.cf_handles.specs.Codes.{append_code}
use Rattle.cf_handles.specs.Calls.{IsCoded}
use Rattle.cf_handles.proofs.Called.{if_lent, if_not_lent, nothing_told, told_coded}
use Rattle.cf_handles.proofs.writers.confluo_append_values.Goals as goal

pub returns-in_default : goal.returns-in_default
returns-in_default c = nothing_told (λ m n. IsCoded append_code (AppendsValues c.args.number c.args.values.now m n)) c.args.writer.now.seat.held _ c.args.offset.now c.number.result c.in_default.ensures.value (if_not_lent c.get_mut.result c.in_default.is c.get_mut.follows.holds-at-none) c.number.ensures

pub returns : goal.returns
returns c =
    told_coded append_code (AppendsValues c.args.number c.args.values.now) c.args.writer.now.seat.held _ c.in-Some.writer.now c.append_values.new.self c.append_values.result c.args.offset.now c.show_offset.new.offset
    c.show_offset.result c.in-Some.ensures.value (if_lent c.get_mut.result c.in-Some.writer c.in-Some.is (c.get_mut.follows.holds c.append_values.new.self)) c.append_values.ensures c.show_offset.ensures.number c.show_offset.ensures.offset
