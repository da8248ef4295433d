use Rattle.std.proofs.Common.{◌≡◌, ◌∙◌, ◌-◌, ◌/◌, ◌%◌, ◌<◌, ap, length, set, subst, sym, arith}
use Rattle.std.specs.Arc.{arc_value}
use Rattle.cf_shape.specs.Lanes.{ShapeValue}
use Rattle.cf_store.specs.Spans.{ReadsSpanRow, SpanValue, seen_by, span_of}
use Rattle.cf_store.specs.declared.held.Reader.{Reader}
use Rattle.cf_store.specs.declared.held.Shared.{Shared}
use Rattle.cf_store.proofs.Spans.{other_below, part_more, place_at, place_low, row_first, row_other, row_still_other}
use Rattle.cf_store.proofs.span.Span.row.Goals as goal

pub returns-then-part-eq0 : goal.returns-then-part-eq0
returns-then-part-eq0 c =
    let first = c.self.inside.first.value in
    let rest = c.self.inside.rest.items in
    let is = c.self.invariant in
    let offset = c.args.offset in
    let room = c.capacity-capacity.result in
    let shape : ShapeValue = (arc_value first.of).log.shape in
    let same : c.deref-2.result.now.log.shape ≡ shape =
    ap (λ (s : Shared). s.log.shape) c.deref-2.ensures ∙ ap (λ (r : Reader). (arc_value r.of).log.shape) c.deref.ensures in
    let full = ap (λ (s : ShapeValue). s.capacity) same in
    let capacity : room ≡ shape.capacity = c.capacity-capacity.ensures.capacity ∙ (ap (λ (s : ShapeValue). s.capacity) c.shape.ensures.shape ∙ full) in
    let lawful = c.shape.ensures.lawful.capacity.0 in
    let low = place_low offset room shape.capacity capacity (omega (arith, full, lawful)) in
    let at = place_at offset room shape.capacity capacity in
    let all = ap (λ (m : SpanValue). length (seen_by m)) (sym c.self.view_is) in
    let covered = c.covered.ensures in
    let test = c.if-offset-covered.false in
    let within : offset < length (seen_by (span_of first rest)) = omega (arith, test, covered, all) in
    let read = rw c.deref_mut.ensures.value at c.row.ensures in
    let n = c.row.new.self in
    let r = c.row.result in
    subst (λ (m : SpanValue). ReadsSpanRow offset m (span_of n rest) r) c.self.view_is
    (row_first first rest is offset (offset / room) (offset % room) c.if-part-eq0.true n r low at within read)

pub index_mut-requires : goal.index_mut-requires
index_mut-requires c =
    let first = c.self.inside.first.value in
    let rest = c.self.inside.rest.items in
    let is = c.self.invariant in
    let offset = c.args.offset in
    let room = c.capacity-capacity.result in
    let shape : ShapeValue = (arc_value first.of).log.shape in
    let same : c.deref-2.result.now.log.shape ≡ shape =
    ap (λ (s : Shared). s.log.shape) c.deref-2.ensures ∙ ap (λ (r : Reader). (arc_value r.of).log.shape) c.deref.ensures in
    let full = ap (λ (s : ShapeValue). s.capacity) same in
    let capacity : room ≡ shape.capacity = c.capacity-capacity.ensures.capacity ∙ (ap (λ (s : ShapeValue). s.capacity) c.shape.ensures.shape ∙ full) in
    let lawful = c.shape.ensures.lawful.capacity.0 in
    let low = place_low offset room shape.capacity capacity (omega (arith, full, lawful)) in
    let at = place_at offset room shape.capacity capacity in
    let all = ap (λ (m : SpanValue). length (seen_by m)) (sym c.self.view_is) in
    let covered = c.covered.ensures in
    let test = c.if-offset-covered.false in
    let within : offset < length (seen_by (span_of first rest)) = omega (arith, test, covered, all) in
    let part = offset / room in
    let below = other_below first rest is offset part (offset % room) (part - 1) (part_more part c.if-part-eq0.false) low at within in
    let long = c.self.inside.rest.ok.0 in
    omega (arith, below, long)

pub invariant_of-self-2 : goal.invariant_of-self-2
invariant_of-self-2 c =
    let first = c.self.inside.first.value in
    let rest = c.self.inside.rest.items in
    let is = c.self.invariant in
    let offset = c.args.offset in
    let room = c.capacity-capacity.result in
    let shape : ShapeValue = (arc_value first.of).log.shape in
    let same : c.deref-2.result.now.log.shape ≡ shape =
    ap (λ (s : Shared). s.log.shape) c.deref-2.ensures ∙ ap (λ (r : Reader). (arc_value r.of).log.shape) c.deref.ensures in
    let full = ap (λ (s : ShapeValue). s.capacity) same in
    let capacity : room ≡ shape.capacity = c.capacity-capacity.ensures.capacity ∙ (ap (λ (s : ShapeValue). s.capacity) c.shape.ensures.shape ∙ full) in
    let lawful = c.shape.ensures.lawful.capacity.0 in
    let low = place_low offset room shape.capacity capacity (omega (arith, full, lawful)) in
    let at = place_at offset room shape.capacity capacity in
    let all = ap (λ (m : SpanValue). length (seen_by m)) (sym c.self.view_is) in
    let covered = c.covered.ensures in
    let test = c.if-offset-covered.false in
    let within : offset < length (seen_by (span_of first rest)) = omega (arith, test, covered, all) in
    let part = offset / room in
    let below = other_below first rest is offset part (offset % room) (part - 1) (part_more part c.if-part-eq0.false) low at within in
    let n = c.row-2.new.self in
    let r = c.row-2.result in
    let read = rw c.index_mut.ensures.value at c.row-2.ensures in
    row_still_other (offset % room) first rest (part - 1) _ n r is below read

pub returns : goal.returns
returns c =
    let first = c.self.inside.first.value in
    let rest = c.self.inside.rest.items in
    let is = c.self.invariant in
    let offset = c.args.offset in
    let room = c.capacity-capacity.result in
    let shape : ShapeValue = (arc_value first.of).log.shape in
    let same : c.deref-2.result.now.log.shape ≡ shape =
    ap (λ (s : Shared). s.log.shape) c.deref-2.ensures ∙ ap (λ (r : Reader). (arc_value r.of).log.shape) c.deref.ensures in
    let full = ap (λ (s : ShapeValue). s.capacity) same in
    let capacity : room ≡ shape.capacity = c.capacity-capacity.ensures.capacity ∙ (ap (λ (s : ShapeValue). s.capacity) c.shape.ensures.shape ∙ full) in
    let lawful = c.shape.ensures.lawful.capacity.0 in
    let low = place_low offset room shape.capacity capacity (omega (arith, full, lawful)) in
    let at = place_at offset room shape.capacity capacity in
    let all = ap (λ (m : SpanValue). length (seen_by m)) (sym c.self.view_is) in
    let covered = c.covered.ensures in
    let test = c.if-offset-covered.false in
    let within : offset < length (seen_by (span_of first rest)) = omega (arith, test, covered, all) in
    let part = offset / room in
    let n = c.row-2.new.self in
    let r = c.row-2.result in
    let read = rw c.index_mut.ensures.value at c.row-2.ensures in
    subst (λ (m : SpanValue). ReadsSpanRow offset m (span_of first (set rest (part - 1) n)) r) c.self.view_is
    (row_other first rest is offset part (offset % room) (part - 1) _ n r (part_more part c.if-part-eq0.false) low at within read)
