use Rattle.std.proofs.Common.{◌∙◌, List, ap}
use Rattle.std.proofs.lemmas.Result.{IfOk-weaker}
use Rattle.cf_row.specs.declared.row.Entry.{Entry}
use Rattle.cf_shape.specs.Lanes.{ShapeValue}
use Rattle.cf_report.specs.Tags.{bare}
use Rattle.cf_store.proofs.Spanned.{seen_as_last}
use Rattle.cf_store.proofs.tags.tags_seen.Goals as goal

pub returns-clause-tags : goal.returns-clause-tags
returns-clause-tags c =
    let capacity = c.capacity.ensures.capacity ∙ ap (λ (s : ShapeValue). s.capacity) c.shape.ensures.shape in
    let all = seen_as_last c.args.shared.now.log.shape.capacity c.capacity.result c.args.pass.now c.args.rest.now c.last_seen-last.result capacity
    c.last_seen-last.ensures in
    IfOk-weaker c.tags_in.result _ _ (λ tags is. is ∙ ap (λ (es : List Entry). bare es) all) c.tags_in.ensures.tags
