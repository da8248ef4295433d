use Rattle.std.proofs.Common.{◌≡◌, arith, rules, ◌∙◌}
use Rattle.std.proofs.lemmas.List.{length-set}
use Rattle.cf_row.specs.declared.schema.Attr.{Attr}
use Rattle.cf_row.specs.Kept.{len_of as len_of_kind}
use Rattle.cf_row.proofs.Kept.{lens_more}
use Rattle.cf_row.proofs.values.lens_of.Goals as goal

pub loop-place-preserved : goal.loop-place-preserved
loop-place-preserved c =
    let same : c.len_of.result ≡ len_of_kind c.index-attrs-place.result.kind = search (rules, c.len_of.ensures, c.index-attrs-place.is) in record {
      long = length-set c.loop-place.lens c.loop-place.place c.len_of.result ∙ c.loop-place.invariant.long;
      kept = lens_more
          (λ (attr : Attr). len_of_kind attr.kind) c.args.attrs.now c.loop-place.lens c.loop-place.place c.len_of.result c.index-attrs-place.result
          c.loop-place-test.true
          (omega (arith, c.loop-place-test.true, c.requires, c.loop-place.invariant.long)) c.loop-place.invariant.kept c.index-attrs-place.is same;
    }
