use Rattle.std.proofs.Common.{◌∙◌, Err, Ok, ap, refl, sym}
use Rattle.cf_setup.specs.Setups.{SetupValue}
use Rattle.cf_setup.specs.Named.{place_in}
use Rattle.cf_handles.specs.declared.code.Code.TheVariants as codes
use Rattle.cf_handles.specs.Named.{IsQuestion}
use Rattle.cf_handles.proofs.Called.{if_lent, if_not_lent, nothing_told, told}
use Rattle.cf_handles.proofs.logs.confluo_question.Goals as goal

pub returns-in_default : goal.returns-in_default
returns-in_default c = nothing_told (IsQuestion c.args.name.now) c.args.log.now.seat.held _ c.args.number.now c.number.result c.in_default.ensures.value (if_not_lent c.get_mut.result c.in_default.is c.get_mut.follows.holds-at-none) c.number.ensures

pub returns-in-Some-found : goal.returns-in-Some-found
returns-in-Some-found c =
    told (IsQuestion c.args.name.now) c.args.log.now.seat.held _ c.in-Some.log.now c.in-Some.log.now (Ok c.in-Some-found.place) c.args.number.now c.in-Some-found.place 0 c.in-Some.ensures.value
    (if_lent c.get_mut.result c.in-Some.log c.in-Some.is (c.get_mut.follows.holds c.in-Some.log.now)) (refl, sym (c.in-Some-found.ensures ∙ ap (λ (s : SetupValue). place_in s.ask_names c.args.name.now) c.setup.ensures)) refl refl

pub returns-in-None : goal.returns-in-None
returns-in-None c =
    told (IsQuestion c.args.name.now) c.args.log.now.seat.held _ c.in-Some.log.now c.in-Some.log.now (Err codes.NoQuestion) c.args.number.now c.args.number.now c.number-in-None.result c.in-Some.ensures.value
    (if_lent c.get_mut.result c.in-Some.log c.in-Some.is (c.get_mut.follows.holds c.in-Some.log.now)) (refl, sym (c.in-None.ensures ∙ ap (λ (s : SetupValue). place_in s.ask_names c.args.name.now) c.setup.ensures), refl) c.number-in-None.ensures refl
