use Rattle.std.proofs.Common.{◌∙◌, List, ap, length, subst, sym}
use Rattle.std.specs.Vec.{with_items}
use Rattle.std.specs.Arc.{arc_value}
use Rattle.std.proofs.lemmas.List.{with_items_is}
use Rattle.cf_shape.specs.Lanes.{ShapeValue}
use Rattle.cf_store.specs.Spans.{AsksTails, SpanValue, span_of}
use Rattle.cf_store.specs.declared.held.Reader.{Reader}
use Rattle.cf_store.specs.declared.held.Shared.{Shared}
use Rattle.cf_store.proofs.Spans.{asks_tails, tails_still}
use Rattle.cf_store.proofs.span.Span.tail.Goals as goal

pub invariant_of-self : goal.invariant_of-self
invariant_of-self c =
    let first = c.self.inside.first.value in
    let rest = c.self.inside.rest in
    let n = c.tail.new.self in
    let ns = c.look_on.new.rest in
    let asked = rw c.deref_mut.ensures.value at c.tail.ensures in
    let capacity = c.capacity-capacity.ensures.capacity
    ∙ (ap (λ (s : ShapeValue). s.capacity) c.shape.ensures.shape
    ∙ (ap (λ (s : Shared). s.log.shape.capacity) c.deref-2.ensures ∙ ap (λ (r : Reader). (arc_value r.of).log.shape.capacity) c.deref.ensures)) in
    let others = rw (capacity, c.deref-3.ensures, c.as_mut_slice.ensures.value) at c.look_on.ensures in
    let long = c.look_on.auto.rest ∙ c.as_mut_slice.ensures.len in
    let same = c.look_on.auto.rest ∙ ap (λ (rs : List Reader). length rs) c.as_mut_slice.ensures.value in
    rw (with_items_is rest ns long) (tails_still first n c.tail.result rest.items ns c.look_on.result c.self.invariant asked others same)

pub returns-clause-asks : goal.returns-clause-asks
returns-clause-asks c =
    let first = c.self.inside.first.value in
    let rest = c.self.inside.rest in
    let n = c.tail.new.self in
    let ns = c.look_on.new.rest in
    let asked = rw c.deref_mut.ensures.value at c.tail.ensures in
    let capacity = c.capacity-capacity.ensures.capacity
    ∙ (ap (λ (s : ShapeValue). s.capacity) c.shape.ensures.shape
    ∙ (ap (λ (s : Shared). s.log.shape.capacity) c.deref-2.ensures ∙ ap (λ (r : Reader). (arc_value r.of).log.shape.capacity) c.deref.ensures)) in
    let others = rw (capacity, c.deref-3.ensures, c.as_mut_slice.ensures.value) at c.look_on.ensures in
    let long = c.look_on.auto.rest ∙ c.as_mut_slice.ensures.len in
    let same = c.look_on.auto.rest ∙ ap (λ (rs : List Reader). length rs) c.as_mut_slice.ensures.value in
    subst (λ (m : SpanValue). AsksTails m (span_of n (with_items rest ns).items)) c.self.view_is
    (subst (λ (rs : List Reader). AsksTails (span_of first rest.items) (span_of n rs)) (sym (with_items_is rest ns long))
    (asks_tails first n c.tail.result rest.items ns c.look_on.result c.self.invariant asked others same))
