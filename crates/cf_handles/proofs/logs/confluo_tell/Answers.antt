use Rattle.std.proofs.Common.{◌∙◌, Err, Ok, ap, refl, sym}
use Rattle.cf_setup.specs.Setups.{SetupValue}
use Rattle.cf_handles.specs.Abouts.{about_of}
use Rattle.cf_handles.specs.declared.code.Code.TheVariants as codes
use Rattle.cf_handles.specs.Named.{IsAbout}
use Rattle.cf_handles.proofs.Called.{if_lent, if_not_lent, nothing_told, told}
use Rattle.cf_handles.proofs.logs.confluo_tell.Goals as goal

pub returns-in_default : goal.returns-in_default
returns-in_default c = nothing_told (IsAbout c.args.sort c.args.number) c.args.log.now.seat.held _ c.args.about.now c.number.result c.in_default.ensures.value (if_not_lent c.get_mut.result c.in_default.is c.get_mut.follows.holds-at-none) c.number.ensures

pub returns-in-Some-found : goal.returns-in-Some-found
returns-in-Some-found c =
    told (IsAbout c.args.sort c.args.number) c.args.log.now.seat.held _ c.in-Some.log.now c.in-Some.log.now (Ok c.in-Some-found.said) c.args.about.now c.in-Some-found.said 0 c.in-Some.ensures.value
    (if_lent c.get_mut.result c.in-Some.log c.in-Some.is (c.get_mut.follows.holds c.in-Some.log.now)) (refl, sym (c.in-Some-found.ensures ∙ ap (λ (s : SetupValue). about_of s c.args.sort c.args.number) c.setup.ensures)) refl refl

pub returns-in-None : goal.returns-in-None
returns-in-None c =
    told (IsAbout c.args.sort c.args.number) c.args.log.now.seat.held _ c.in-Some.log.now c.in-Some.log.now (Err codes.NoName) c.args.about.now c.args.about.now c.number-in-None.result c.in-Some.ensures.value
    (if_lent c.get_mut.result c.in-Some.log c.in-Some.is (c.get_mut.follows.holds c.in-Some.log.now)) (refl, sym (c.in-None.ensures ∙ ap (λ (s : SetupValue). about_of s c.args.sort c.args.number) c.setup.ensures), refl) c.number-in-None.ensures refl
