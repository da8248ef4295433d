use Rattle.std.proofs.Common.{◌≡◌, ◌<◌, ◌≤◌, ◌+◌, ◌*◌, ◌^◌, ◌++◌, ◌∷◌, [], ℕ, List, All, Some, length, map, take, get_or, slice_get, sym, ap, ap₂, subst, ◌∙◌, arith, rules}
use Rattle.std.proofs.lemmas.List.{take_all}
use Rattle.std.specs.List.{flat_map}
use Rattle.cf_row.specs.declared.row.Entry.{Entry}
use Rattle.cf_shape.specs.Lanes.{ShapeValue}
use Rattle.cf_table.specs.Values.{LogValue}
use Rattle.cf_scan.specs.Parts.{IsPart}
use Rattle.cf_segments.specs.Readers.{log_in}
use Rattle.cf_segments.specs.Segments.{IsSegment, KeepsSegment, seen_of}
use Rattle.cf_segments.specs.declared.segments.Segment.{Segment}
use Rattle.cf_segments.proofs.Changing.{changed_all, changed_at, changed_holds, changed_long, changed_more, changed_some}
use Rattle.cf_segments.proofs.Cutting.{few_more, log_last, log_there, seen_more}
use Rattle.cf_segments.proofs.Zips.{zip_long}
use Rattle.cf_segments.proofs.Kept.{segment_none}
use Rattle.cf_segments.proofs.cuts.parts_of.Goals as goal

pub push_parts-requires : goal.push_parts-requires
push_parts-requires g c =
    let i = c.loop-segment.segment-index in
    let now = c.loop-segment.closed in
    let low : i < length now = search rules in
    let shape = (c.args.current.now.log).shape in
    record {
      is = (shape, changed_holds KeepsSegment (IsSegment shape) i c.args.closed.now now c.segment-item.result c.requires.closed low c.loop-segment.invariant.kept);
    }

pub loop-segment-preserved : goal.loop-segment-preserved
loop-segment-preserved g c =
    let i = c.loop-segment.segment-index in
    let old = c.args.closed.now in
    let now = c.loop-segment.closed in
    let current = c.args.current.now in
    let d = c.segment-item.result in
    let v = c.loop-segment.invariant in
    let low : i < length now = search rules in
    let there : i < length old = changed_long KeepsSegment i old now low v.kept in
    let at : get_or now i d ≡ get_or old i d = changed_at KeepsSegment i old now d v.kept in
    let shape_is : ((get_or now i d).log).shape ≡ (current.log).shape =
    (changed_holds KeepsSegment (IsSegment (current.log).shape) i old now d c.requires.closed low v.kept).shape_is in
    let logs : List LogValue = map log_in (old ++ current ∷ []) in
    let place = v.place in
    let stands : slice_get logs c.loop-segment.place ≡ Some (get_or now i d).log =
    ap (slice_get logs) place ∙ (log_there old current i d there ∙ ap (λ (f : Segment). Some f.log) (sym at)) in
    let more = c.in_ok-push_parts.ensures.entries ∙ ap₂ (λ (es fs : List Entry). es ++ fs) v.entries (ap seen_of at) in
    record {
      place = omega (arith, place);
      kept = changed_more KeepsSegment i old now d c.push_parts.new.self low v.kept c.push_parts.ensures.kept;
      each = subst (λ (h : ShapeValue). All (IsPart h logs) c.push_parts.new.parts.items) shape_is
          (c.push_parts.ensures.are logs stands (subst (λ (h : ShapeValue). All (IsPart h logs) c.loop-segment.parts.items) (sym shape_is) v.each));
      entries = more ∙ seen_more old i d there;
      few = subst (λ (es : List Entry). length es ≤ (current.log).shape.capacity * (i + 1)) (seen_more old i d there)
          (few_more (current.log).shape.capacity i (flat_map seen_of (take i old)) (seen_of (get_or old i d)) v.few
          (subst (λ (f : Segment). length (seen_of f) ≤ (current.log).shape.capacity) at
          (subst (λ (h : ShapeValue). length (seen_of (get_or now i d)) ≤ h.capacity) shape_is c.push_parts.ensures.few)));
    }

pub returns-in_err-push_parts-clause-closed : goal.returns-in_err-push_parts-clause-closed
returns-in_err-push_parts-clause-closed g c =
    let i = c.loop-segment.segment-index in
    let now = c.loop-segment.closed in
    let low : i < length now = search rules in
    changed_some KeepsSegment segment_none (i + 1) c.args.closed.now _
    (changed_more KeepsSegment i c.args.closed.now now c.segment-item.result c.push_parts.new.self low c.loop-segment.invariant.kept c.push_parts.ensures.kept)

pub returns-clause-parts : goal.returns-clause-parts
returns-clause-parts g c most =
    let old = c.args.closed.now in
    let current = c.args.current.now in
    let i = c.loop-segment.segment-index in
    let v = c.loop-segment.invariant in
    let past : length c.loop-segment.closed ≤ i = search rules in
    let same = zip_long KeepsSegment old c.loop-segment.closed (changed_all KeepsSegment i old c.loop-segment.closed past v.kept) in
    let whole : take i old ≡ old = take_all i old (omega (arith, past, same)) in
    let at : i ≡ length old = search rules in
    let logs : List LogValue = map log_in (old ++ current ∷ []) in
    let place = v.place in
    let stands : slice_get logs c.loop-segment.place ≡ Some current.log = ap (slice_get logs) (place ∙ at) ∙ log_last old current in
    let seen : flat_map seen_of (take i old) ++ seen_of current ≡ flat_map seen_of (old ++ current ∷ []) =
    ap (λ (gs : List Segment). flat_map seen_of gs ++ seen_of current) whole
    ∙ Rattle.std.proofs.lemmas.List.flat_map_more seen_of [] old current in
    let few = few_more (current.log).shape.capacity i (flat_map seen_of (take i old)) (seen_of current) v.few c.push_parts-2.ensures.few in
    record {
      each = c.push_parts-2.ensures.are logs stands v.each;
      entries = c.in_ok-push_parts-2.ensures.entries ∙ (ap (λ (es : List Entry). es ++ seen_of current) v.entries ∙ seen);
      few = subst (λ (es : List Entry). length es ≤ 2 ^ 20) seen
          (let room = c.requires.room in
          let size : (current.log).shape.capacity * (i + 1) ≡ (current.log).shape.capacity * length old + (current.log).shape.capacity =
          ap (λ (k : ℕ). (current.log).shape.capacity * (k + 1)) at ∙ Rattle.cf_segments.proofs.Cutting.one_more (current.log).shape.capacity (length old) in
          omega (arith, few, room, size));
    }
