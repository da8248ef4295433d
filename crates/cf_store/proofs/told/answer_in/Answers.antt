use Rattle.std.proofs.Common.{◌∙◌, List, length, ap}
use Rattle.cf_row.specs.declared.row.Entry.{Entry}
use Rattle.cf_shape.specs.Lanes.{ShapeValue}
use Rattle.cf_plain.specs.Asks.{eval, rows_in}
use Rattle.cf_plain.specs.Segments.{body_of}
use Rattle.cf_plain.proofs.Joined.{findings_tell}
use Rattle.cf_store.specs.Ends.{seen_upto}
use Rattle.cf_store.proofs.Spanned.{seen_as_last}
use Rattle.cf_store.proofs.told.answer_in.Goals as goal

pub returns-clause-tail : goal.returns-clause-tail
returns-clause-tail c =
    let shared = c.args.shared.now in
    let first = c.args.pass.now in
    let rest = c.args.rest.now in
    let last = c.last_seen-last.result in
    let capacity = c.capacity.ensures.capacity ∙ ap (λ (s : ShapeValue). s.capacity) c.shape.ensures.shape in
    let all = seen_as_last shared.log.shape.capacity c.capacity.result first rest last capacity c.last_seen-last.ensures in
    c.in_ok-tail.ensures.count ∙ ap (λ (es : List Entry). length es) all

pub returns-clause-body : goal.returns-clause-body
returns-clause-body c =
    let shared = c.args.shared.now in
    let first = c.args.pass.now in
    let rest = c.args.rest.now in
    let ask = c.args.question.now in
    let shape = shared.log.shape in
    let last = c.last_seen-last.result in
    let capacity = c.capacity.ensures.capacity ∙ ap (λ (s : ShapeValue). s.capacity) c.shape.ensures.shape in
    let all = seen_as_last shape.capacity c.capacity.result first rest last capacity c.last_seen-last.ensures in
    c.in_ok-body.ensures ∙ (ap (body_of ask) c.in_ok-tail.ensures.found
    ∙ (findings_tell shape ask (rows_in (seen_upto first rest last)) ∙ ap (λ (es : List Entry). eval shape ask es) all))
