use Rattle.std.proofs.Common.{◌≡◌, ◌∙◌, ℕ, List, slice_get, ap, ap₂, sym}
use Rattle.cf_row.specs.declared.schema.Attr.{Attr}
use Rattle.cf_shape.specs.Lanes.{ShapeValue, is_number, option_passes}
use Rattle.cf_query.proofs.Entries.{time_there}
use Rattle.cf_query.proofs.apart.bucket_at.Goals as goal

pub number-time-requires-clause-number : goal.number-time-requires-clause-number
number-time-requires-clause-number g c =
    let schema : c.schema-schema.result.now ≡ c.args.selection.now.log.shape.schema = c.schema-schema.ensures ∙ ap (λ (s : ShapeValue). s.schema) c.requires.shape in
    ap₂ (λ (attrs : List Attr) (k : ℕ). option_passes is_number (slice_get attrs k)) (sym schema) c.ts_place.ensures.place
    ∙ time_there c.schema-schema.result.now c.attrs-lawful.ensures.lawful
