use Rattle.std.proofs.Common.{◌≡◌, ◌∙◌, ◌<◌, ◌++◌, get_or, length, rules, ap, string_bytes}
use Rattle.std.proofs.lemmas.List.{get_or_default}
use Rattle.cf_row.proofs.Ranges.{step_range}
use Rattle.cf_plain.specs.declared.answer.Body.{Body}
use Rattle.cf_long.specs.Texts.{no_body, placed_line, placed_line_at}
use Rattle.cf_long.proofs.text.push_asks.Goals as goal

pub loop-place-preserved : goal.loop-place-preserved
loop-place-preserved c =
    let setup = c.args.setup.now in
    let finals = c.args.finals.now in
    let place = c.loop-place.place in
    let body = c.index-finals-place.result in
    let low : place < length finals = search rules in
    let is : body ≡ get_or finals place no_body = c.index-finals-place.is ∙ get_or_default finals place body no_body low in
    step_range (placed_line_at setup finals) place (string_bytes c.args.text.now) (string_bytes c.loop-place.text) (string_bytes c.push_ask.new.text)
    c.loop-place.invariant
    (c.in_ok-push_ask.ensures ∙ ap (λ (b : Body). string_bytes c.loop-place.text ++ placed_line setup place b) is)
