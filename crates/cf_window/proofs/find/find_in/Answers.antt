use Rattle.std.proofs.Common.{◌≡◌, ◌∙◌, ◌<◌, List, length, get_or, set, sym, ap, subst, arith, rules}
use Rattle.std.proofs.lemmas.List.{set-get_or}
use Rattle.cf_window.specs.Segments.{WindowSegmentValue}
use Rattle.cf_window.proofs.Finding.{can, count_few, count_next, found_next, low_next}
use Rattle.cf_window.proofs.find.find_in.Goals as goal

pub join-requires : goal.join-requires
join-requires c =
    let i = c.loop-segment.segment-index in
    let xs : List WindowSegmentValue = c.args.segments.now in
    let now : List WindowSegmentValue = c.loop-segment.segments in
    let d = c.segment-item.result in
    let v = c.loop-segment.invariant in
    let low : i < length now = search rules in
    let shape = subst (λ (ys : List WindowSegmentValue). (get_or ys i d).shape ≡ c.args.shape.now) (sym v.same)
    (c.requires.shapes i d (subst (λ (ys : List WindowSegmentValue). i < length ys) v.same low)) in
    let f = c.in_ok-tail.ensures.found in
    record {
      can = can c.args.shape.now c.args.ask.now xs now i d low v.same c.requires.few c.loop-segment.count c.loop-segment.found v.count v.found
          c.in_ok-tail.tail c.in_ok-tail.more shape f.0 f.1 v.low c.find.ensures.few;
    }

pub overflow_add-count : goal.overflow_add-count
overflow_add-count c =
    let i = c.loop-segment.segment-index in
    let xs : List WindowSegmentValue = c.args.segments.now in
    let now : List WindowSegmentValue = c.loop-segment.segments in
    let d = c.segment-item.result in
    let v = c.loop-segment.invariant in
    let low : i < length now = search rules in
    let shape = subst (λ (ys : List WindowSegmentValue). (get_or ys i d).shape ≡ c.args.shape.now) (sym v.same)
    (c.requires.shapes i d (subst (λ (ys : List WindowSegmentValue). i < length ys) v.same low)) in
    let f = c.in_ok-tail.ensures.found in
    let few = count_few c.args.shape.now c.args.ask.now xs now i d low v.same c.requires.few c.loop-segment.count c.loop-segment.found v.count v.found
    c.in_ok-tail.tail c.in_ok-tail.more shape f.0 f.1 v.low c.find.ensures.few in
    omega (arith, few)

pub loop-segment-preserved : goal.loop-segment-preserved
loop-segment-preserved c =
    let i = c.loop-segment.segment-index in
    let xs : List WindowSegmentValue = c.args.segments.now in
    let now : List WindowSegmentValue = c.loop-segment.segments in
    let d = c.segment-item.result in
    let v = c.loop-segment.invariant in
    let low : i < length now = search rules in
    let shape = subst (λ (ys : List WindowSegmentValue). (get_or ys i d).shape ≡ c.args.shape.now) (sym v.same)
    (c.requires.shapes i d (subst (λ (ys : List WindowSegmentValue). i < length ys) v.same low)) in
    let f = c.in_ok-tail.ensures.found in
    record {
      same = ap (λ (x : WindowSegmentValue). set now i x) c.in_ok-tail.ensures.stays ∙ (set-get_or now i d ∙ v.same);
      count = count_next c.args.shape.now c.args.ask.now xs now i d low v.same c.requires.few c.loop-segment.count c.loop-segment.found v.count v.found
          c.in_ok-tail.tail c.in_ok-tail.more shape f.0 f.1 v.low c.find.ensures.few;
      low = low_next c.args.shape.now c.args.ask.now xs now i d low v.same c.requires.few c.loop-segment.count c.loop-segment.found v.count v.found
          c.in_ok-tail.tail c.in_ok-tail.more shape f.0 f.1 v.low c.find.ensures.few;
      found = found_next c.args.shape.now c.args.ask.now xs now i d low v.same c.requires.few c.loop-segment.count c.loop-segment.found v.count v.found
          c.in_ok-tail.tail c.in_ok-tail.more shape f.0 f.1 v.low c.find.ensures.few c.in_ok-found.found c.in_ok-found.ensures;
    }
