use Rattle.std.proofs.Common.{Err, Ok, refl}
use Rattle.cf_handles.specs.declared.code.Code.TheVariants as codes
use Rattle.cf_handles.specs.Named.{NamesTo}
use Rattle.cf_handles.proofs.Called.{if_lent, if_not_lent, nothing_told, told}
use Rattle.cf_handles.proofs.logs.confluo_name.Goals as goal

pub returns-in_default-clause-named : goal.returns-in_default-clause-named
returns-in_default-clause-named c = nothing_told (NamesTo c.args.sort c.args.number c.args.name.now c.args.name.now) c.args.log.now.seat.held _ c.args.count.now c.number.result c.in_default.ensures.value (if_not_lent c.get_mut.result c.in_default.is c.get_mut.follows.holds-at-none) c.number.ensures

pub returns-in-Some-found-clause-named : goal.returns-in-Some-found-clause-named
returns-in-Some-found-clause-named c =
    told (NamesTo c.args.sort c.args.number c.args.name.now c.copy_name-found.new.out) c.args.log.now.seat.held _ c.in-Some.log.now c.in-Some.log.now (Ok c.in-Some-found.long) c.args.count.now
    c.in-Some-found.long 0 c.in-Some.ensures.value (if_lent c.get_mut.result c.in-Some.log c.in-Some.is (c.get_mut.follows.holds c.in-Some.log.now)) (refl, c.in-Some-found.ensures) refl refl

pub returns-in-None-clause-named : goal.returns-in-None-clause-named
returns-in-None-clause-named c =
    told (NamesTo c.args.sort c.args.number c.args.name.now c.copy_name-found.new.out) c.args.log.now.seat.held _ c.in-Some.log.now c.in-Some.log.now (Err codes.NoName) c.args.count.now
    c.args.count.now c.number-in-None.result c.in-Some.ensures.value (if_lent c.get_mut.result c.in-Some.log c.in-Some.is (c.get_mut.follows.holds c.in-Some.log.now)) (refl, c.in-None.ensures, refl) c.number-in-None.ensures refl
