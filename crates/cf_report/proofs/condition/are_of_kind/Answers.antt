use Rattle.std.proofs.Common.{refl, ◌≡◌, ◌<◌, ◌≤◌, true, get_or, length, sym, ap₂, subst, ◌∙◌, arith, rules}
use Rattle.std.specs.List.{All}
use Rattle.std.proofs.lemmas.List.{take_all}
use Rattle.std.proofs.lemmas.List.Elements.{All-more}
use Rattle.cf_plain.specs.History.{AskReply}
use Rattle.cf_plain.specs.declared.ask.Ask.{Ask}
use Rattle.cf_plain.specs.declared.answer.Body.{Body}
use Rattle.cf_report.specs.Answered.{is_body_of, told_by, tolds_of}
use Rattle.cf_report.specs.Report.{nothing_told}
use Rattle.cf_report.proofs.Tolds.{told_at, length_tolds}
use Rattle.cf_report.proofs.condition.are_of_kind.Goals as goal

abbrev IsOfKind : AskReply Ask Body → Type 0
IsOfKind told = is_body_of told.ask told.body ≡ true

pub loop-place-preserved : goal.loop-place-preserved
loop-place-preserved c =
    let asks = c.args.asks.now in
    let finals = c.args.finals.now in
    let place = c.loop-place.place in
    let ask = c.index-asks-place.result in
    let answer = c.index-finals-place.result in
    let own : is_body_of ask answer.body ≡ true = search rules in
    let size : length (tolds_of asks finals) ≡ length asks = length_tolds asks finals c.requires in
    let within : place < length asks = c.loop-place-test.true in
    let told : told_by ask answer ≡ get_or (tolds_of asks finals) place nothing_told =
    sym (told_at asks finals place ask answer nothing_told within c.requires ∙ ap₂ told_by (sym c.index-asks-place.is) (sym c.index-finals-place.is)) in
    All-more IsOfKind (tolds_of asks finals) place nothing_told (omega (arith, size, within)) c.loop-place.invariant (subst IsOfKind told own)

pub returns : goal.returns
returns c =
    let asks = c.args.asks.now in
    let finals = c.args.finals.now in
    let size : length (tolds_of asks finals) ≡ length asks = length_tolds asks finals c.requires in
    let past : length asks ≤ c.loop-place.place = c.loop-place-test.false in
    (λ t. subst (All IsOfKind) (take_all c.loop-place.place (tolds_of asks finals) (omega (arith, size, past))) c.loop-place.invariant, λ all. refl)

pub returns-then-not-is_kind : goal.returns-then-not-is_kind
returns-then-not-is_kind c =
    let asks = c.args.asks.now in
    let finals = c.args.finals.now in
    let place = c.loop-place.place in
    let ask = c.index-asks-place.result in
    let answer = c.index-finals-place.result in
    let other : is_body_of ask answer.body ≡ true → ⊥ = search rules in
    let size : length (tolds_of asks finals) ≡ length asks = length_tolds asks finals c.requires in
    let within : place < length asks = c.loop-place-test.true in
    let told : told_by ask answer ≡ get_or (tolds_of asks finals) place nothing_told =
    sym (told_at asks finals place ask answer nothing_told within c.requires ∙ ap₂ told_by (sym c.index-asks-place.is) (sym c.index-finals-place.is)) in
    (λ t. absurd (cc t), λ all. absurd (other (subst IsOfKind (sym told) (all place nothing_told (omega (arith, size, within))))))
