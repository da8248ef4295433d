use Rattle.std.proofs.Common.{◌∙◌, List, subst, sym}
use Rattle.std.specs.Vec.{with_items}
use Rattle.std.proofs.lemmas.List.{with_items_is}
use Rattle.cf_store.specs.Spans.{ReportsSpan, SpanValue, span_of}
use Rattle.cf_store.specs.declared.held.Reader.{Reader}
use Rattle.cf_store.proofs.Reported.{span_remains, span_reports}
use Rattle.cf_store.proofs.span.Span.report.Goals as goal

pub invariant_of-self : goal.invariant_of-self
invariant_of-self c =
    let first = c.self.inside.first.value in
    let rest = c.self.inside.rest in
    let n = c.report_with.new.self in
    let ns = c.report_with.new.rest in
    let r = c.report_with.result in
    let asked = rw (c.deref_mut.ensures.value, c.as_mut_slice.ensures.value) at c.report_with.ensures in
    let long = c.report_with.auto.rest ∙ c.as_mut_slice.ensures.len in
    rw (with_items_is rest ns long) (span_remains first n rest.items ns r c.self.invariant asked)

pub returns : goal.returns
returns c =
    let first = c.self.inside.first.value in
    let rest = c.self.inside.rest in
    let n = c.report_with.new.self in
    let ns = c.report_with.new.rest in
    let r = c.report_with.result in
    let asked = rw (c.deref_mut.ensures.value, c.as_mut_slice.ensures.value) at c.report_with.ensures in
    let long = c.report_with.auto.rest ∙ c.as_mut_slice.ensures.len in
    subst (λ (m : SpanValue). ReportsSpan m (span_of n (with_items rest ns).items) r) c.self.view_is
    (subst (λ (rs : List Reader). ReportsSpan (span_of first rest.items) (span_of n rs) r) (sym (with_items_is rest ns long))
    (span_reports first n rest.items ns r asked))
