use Rattle.std.proofs.Common.{◌≡◌, ◌<◌, ◌++◌, length, get_or, ap, ◌∙◌, string_bytes}
use Rattle.std.proofs.lemmas.List.{get_or_default}
use Rattle.cf_row.proofs.Ranges.{step_range}
use Rattle.cf_row.specs.Row.{value_at}
use Rattle.cf_row.specs.declared.schema.Attr.{Attr}
use Rattle.cf_report.specs.Dump.{attr_at, no_attr, field_at, field_text}
use Rattle.cf_report.proofs.listing.push_fields.Goals as goal

pub loop-place-preserved : goal.loop-place-preserved
loop-place-preserved c =
    let attrs = c.args.schema.now in
    let row = c.args.row.now in
    let place = c.loop-place.place in
    let attr = c.index-attrs-place.result in
    let within : place < length attrs = rw c.attrs-attrs.ensures.attrs at c.loop-place-test.true in
    let attr_is : attr ≡ get_or attrs place attr = rw c.attrs-attrs.ensures.attrs at c.index-attrs-place.is in
    let there : attr ≡ attr_at attrs place = attr_is ∙ get_or_default attrs place attr no_attr within in
    let field = rw c.get.ensures at c.in_ok-push_field.ensures in
    step_range (field_at attrs row) place (string_bytes c.args.text.now) (string_bytes c.loop-place.text)
    (string_bytes c.push_field.new.text) c.loop-place.invariant
    (field ∙ ap (λ (a : Attr). string_bytes c.loop-place.text ++ field_text a (value_at row place)) there)
