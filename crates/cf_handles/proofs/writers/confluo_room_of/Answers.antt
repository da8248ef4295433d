use Rattle.std.proofs.Common.{Ok, refl}
use Rattle.cf_handles.specs.Calls.{IsRoom}
use Rattle.cf_handles.proofs.Called.{if_lent, if_not_lent, nothing_told, told}
use Rattle.cf_handles.proofs.writers.confluo_room_of.Goals as goal

pub returns-in_default : goal.returns-in_default
returns-in_default c = nothing_told (IsRoom) c.args.writer.now.seat.held _ c.args.room.now c.number.result c.in_default.ensures.value (if_not_lent c.get_mut.result c.in_default.is c.get_mut.follows.holds-at-none) c.number.ensures

pub returns : goal.returns
returns c =
    told IsRoom c.args.writer.now.seat.held _ c.in-Some.writer.now c.in-Some.writer.now (Ok c.room.result) c.args.room.now c.room.result 0 c.in-Some.ensures.value
    (if_lent c.get_mut.result c.in-Some.writer c.in-Some.is (c.get_mut.follows.holds c.in-Some.writer.now)) (refl, c.room.ensures) refl refl
