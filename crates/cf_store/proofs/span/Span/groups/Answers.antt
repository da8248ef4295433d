use Rattle.std.proofs.Common.{◌∙◌, List, subst, sym}
use Rattle.std.specs.Vec.{with_items}
use Rattle.std.proofs.lemmas.List.{with_items_is}
use Rattle.cf_store.specs.Spans.{TellsSpanGroups, SpanValue, span_of}
use Rattle.cf_store.specs.declared.held.Reader.{Reader}
use Rattle.cf_store.proofs.Spans.{groups_still, groups_seen}
use Rattle.cf_store.proofs.span.Span.groups.Goals as goal

pub invariant_of-self : goal.invariant_of-self
invariant_of-self c =
    let first = c.self.inside.first.value in
    let rest = c.self.inside.rest in
    let n = c.groups_with.new.self in
    let ns = c.groups_with.new.rest in
    let r = c.groups_with.result in
    let asked = rw (c.deref_mut.ensures.value, c.as_mut_slice.ensures.value) at c.groups_with.ensures in
    let long = c.groups_with.auto.rest ∙ c.as_mut_slice.ensures.len in
    rw (with_items_is rest ns long) (groups_still c.args.lane first n rest.items ns r c.self.invariant asked)

pub returns : goal.returns
returns c =
    let first = c.self.inside.first.value in
    let rest = c.self.inside.rest in
    let n = c.groups_with.new.self in
    let ns = c.groups_with.new.rest in
    let r = c.groups_with.result in
    let asked = rw (c.deref_mut.ensures.value, c.as_mut_slice.ensures.value) at c.groups_with.ensures in
    let long = c.groups_with.auto.rest ∙ c.as_mut_slice.ensures.len in
    subst (λ (m : SpanValue). TellsSpanGroups c.args.lane m (span_of n (with_items rest ns).items) r) c.self.view_is
    (subst (λ (rs : List Reader). TellsSpanGroups c.args.lane (span_of first rest.items) (span_of n rs) r) (sym (with_items_is rest ns long))
    (groups_seen c.args.lane first n rest.items ns r asked))
